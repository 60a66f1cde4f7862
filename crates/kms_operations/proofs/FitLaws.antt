-- Changes that apply to what is kept, and can be recorded.
use Rattle.std.proofs.Common.{◌≡◌, ℕ, ◌==◌, ◌^◌, ◌<◌, ◌||◌, true, List, Option, Some, refl, sym, ap, subst, ◌∙◌, arith}
use Rattle.std.specs.Prelude.{IfSome, None, is_some, nat_lt}
use Rattle.std.specs.List.{list_any}
use Rattle.std.proofs.lemmas.Bool.{and_from, eq-eqb, le-leb, or_left}
use Rattle.kms_kept.specs.Kept.{Kept, is_taken}
use Rattle.kms_record.specs.Acl.{AreUsersInRange}
use Rattle.kms_record.specs.Base.{acl_put_of, count_of}
use Rattle.kms_record.specs.Metadata.{ArePairsInRange}
use Rattle.kms_record.specs.SecretPut.{IsInRange}
use Rattle.kms_record.specs.declared.change.Change.{Change}
use Rattle.kms_record.specs.declared.change.Change.TheVariants.{SecretPut, MetadataPut, AclPut, AclDropped, Deleted}
use Rattle.kms_record.specs.declared.secret_put.SecretPut as put_type
use Rattle.kms_store.specs.KeptSecret.{without_number}
use Rattle.kms_world.specs.Id.{is_id}
use Rattle.kms_world.specs.LookUp.{secret_of, container_of, acl_of}
use Rattle.kms_world.specs.Times.{end_of_times}
use Rattle.kms_world.specs.declared.acl.AclRow.{AclRow}
use Rattle.kms_world.specs.declared.id.Id.{Id}
use Rattle.kms_world.specs.declared.secret.SecretRow.{SecretRow}
use Rattle.kms_operations.specs.Change.{drop_of}
use Rattle.kms_operations.specs.Found.{IsKeptSecret, IsTarget}
use Rattle.kms_operations.specs.Outcome.{Fits}
use Rattle.kms_operations.proofs.FoundLaws.{found_any}

pub count_fits : (id : Id) → count_of id < 2 ^ 62
count_fits id = omega arith

pub secret_fits : (kept : Kept) (put : put_type.SecretPut) → IsInRange put → put.id ≡ kept.state.ids → Fits kept (SecretPut put)
secret_fits kept put range next = record {
  range = range;
  rows = refl;
  applies = and_from (put.id == kept.state.ids) (nat_lt put.id (2 ^ 62)) (eq-eqb put.id kept.state.ids next) (le-leb _ _ range.id);
}

-- the count of a row that is shown without the number of its key
pub count_is : (row shown : SecretRow) (n : ℕ) → shown ≡ without_number row → n ≡ count_of shown.id → n ≡ count_of row.id
count_is row shown n same is = is ∙ ap (λ (r : SecretRow). count_of r.id) same

pub deletion_fits : (kept : Kept) (row : SecretRow) (n : ℕ) → IsKeptSecret kept row → n ≡ count_of row.id → Fits kept (Deleted n)
deletion_fits kept row n is same = subst (λ (m : ℕ). Fits kept (Deleted m)) (sym same) (record {
  range = count_fits row.id;
  rows = refl;
  applies = subst (λ (i : Id). is_taken kept.state i ≡ true) (sym is.is.id) (or_left _ _ (or_left _ _ (ap is_some is.here)));
})

put_at : (n t : ℕ) (pairs : List (List ℕ × List ℕ)) → Change
put_at n t pairs = MetadataPut (record { secret = n; updated = t; pairs = pairs })

pub metadata_fits : (kept : Kept) (row : SecretRow) (n t : ℕ) (pairs : List (List ℕ × List ℕ)) → IsKeptSecret kept row → n ≡ count_of row.id → t < end_of_times → ArePairsInRange pairs
    → Fits kept (MetadataPut (record { secret = n; updated = t; pairs = pairs }))
unfolding put_at
metadata_fits kept row n t pairs is same time range = subst (λ (m : ℕ). Fits kept (put_at m t pairs)) (sym same) (record {
  range = record { secret = count_fits row.id; updated = time; pairs = range };
  rows = refl;
  applies = subst (λ (i : Id). is_some (secret_of i kept.state.secrets) ≡ true) (sym is.is.id) (ap is_some is.here);
})

pub acl_fits : (kept : Kept) (row : AclRow) → IsTarget kept row.target → row.created < end_of_times → row.updated < end_of_times → AreUsersInRange row.users → Fits kept (AclPut (acl_put_of row))
acl_fits kept row is created updated users = record {
  range = record { target = count_fits row.target; created = created; updated = updated; users = users };
  rows = refl;
  applies = subst (λ (i : Id). (is_some (secret_of i kept.state.secrets) || is_some (container_of i kept.state.containers)) ≡ true) (sym is.is) is.there;
}

pub drop_fits : (kept : Kept) (target : Id) (acl : AclRow) → IsTarget kept target → acl_of target kept.state.acls ≡ Some acl → Fits kept (AclDropped (count_of target))
drop_fits kept target acl is found = record {
  range = count_fits target;
  rows = refl;
  applies = subst (λ (i : Id). list_any (λ (r : AclRow). is_id i r.target) kept.state.acls ≡ true) (sym is.is) (found_any (λ (r : AclRow). is_id target r.target) kept.state.acls acl found);
}

pub drop_if_any : (kept : Kept) (target : Id) (found : Option AclRow) (change : Option Change) → IsTarget kept target → found ≡ acl_of target kept.state.acls → change ≡ drop_of (count_of target) found → IfSome change (Fits kept)
drop_if_any kept target found change is at same = subst (λ (x : Option Change). IfSome x (Fits kept)) (sym same) (by found at)
  where
    by : (found : Option AclRow) → found ≡ acl_of target kept.state.acls → IfSome (drop_of (count_of target) found) (Fits kept)
    by None at = tt
    by (Some acl) at = drop_fits kept target acl is (sym at)
