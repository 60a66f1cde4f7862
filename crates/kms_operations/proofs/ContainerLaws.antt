-- Containers as they are put.
use Rattle.std.proofs.Common.{◌≡◌, ℕ, ◌==◌, ◌≤◌, ◌^◌, true, List, [], ◌∷◌, length, map, Option, Some, None, refl, sym, ap, subst, ◌∙◌, arith}
use Rattle.std.specs.Prelude.{is_some, nat_lt}
use Rattle.std.specs.List.{AllByRecursion, list_all}
use Rattle.std.specs.Str.{bytes_eq}
use Rattle.std.proofs.lemmas.Bool.{and_from, and_parts, eq-eqb, le-leb, or_left, or_right}
use Rattle.std.proofs.lemmas.List.{length-map}
use Rattle.kms_box.specs.Ranges as checked
use Rattle.kms_kept.specs.Kept.{Kept, is_taken}
use Rattle.kms_kept.specs.Sound.{IsSound}
use Rattle.kms_model.proofs.SecretLaws.{one_id, found_passes}
use Rattle.kms_model.specs.Containers.{is_usable}
use Rattle.kms_model.specs.Secrets.{if_passes, is_live}
use Rattle.kms_record.specs.Base.{count_of, member_of}
use Rattle.kms_record.specs.ChangeEffect.{row_member}
use Rattle.kms_record.specs.Container.{AreMembersInRange, IsContainerPutInRange, IsMemberInRange}
use Rattle.kms_record.specs.declared.change.Change.TheVariants.{ContainerPut, Deleted}
use Rattle.kms_record.specs.declared.container.ContainerPut as put_type
use Rattle.kms_record.specs.declared.member.Member.{Member}
use Rattle.kms_world.specs.Id.{id_at, is_id}
use Rattle.kms_world.specs.LookUp.{secret_of}
use Rattle.kms_world.specs.declared.caller.Caller.{Caller}
use Rattle.kms_world.specs.declared.container.ContainerRow.{ContainerRow}
use Rattle.kms_world.specs.declared.id.Id.{Id}
use Rattle.kms_world.specs.declared.secret.SecretRow.{SecretRow}
use Rattle.kms_operations.specs.Found.{IsKeptContainer}
use Rattle.kms_operations.specs.Outcome.{Fits}
use Rattle.kms_operations.proofs.FitLaws.{count_fits}
use Rattle.kms_operations.proofs.FoundLaws.{kept_secret}

module _ (kept : Kept) (sound : IsSound kept) (caller : Caller) (t : ℕ) where
  -- an id that a usable member names is that of its count
  pub usable_id : (member : Option (List ℕ) × Id) → is_usable kept.state caller t member ≡ true → id_at kept.state.tag (count_of member.1) ≡ member.1
  usable_id member is = by (secret_of member.1 kept.state.secrets) refl is
    where
      named : (row : SecretRow) → secret_of member.1 kept.state.secrets ≡ Some row → id_at kept.state.tag (count_of member.1) ≡ member.1
      named row found =
          let k = kept_secret kept member.1 row sound (sym found) in
          let same : row.id ≡ member.1 = one_id member.1 row.id (found_passes (λ (r : SecretRow). is_id member.1 r.id) kept.state.secrets row found) in
          subst (λ (i : Id). id_at kept.state.tag (count_of i) ≡ i) same k.is.id

      by : (found : Option SecretRow) → secret_of member.1 kept.state.secrets ≡ found
          → is_some (if_passes (λ (r : SecretRow). bytes_eq r.project caller.project) (if_passes (λ (r : SecretRow). is_live t r.expiration) found)) ≡ true → id_at kept.state.tag (count_of member.1) ≡ member.1
      by None found is = absurd cc
      by (Some row) found is = named row found

  pub members_back : (members : List (Option (List ℕ) × Id)) → list_all (is_usable kept.state caller t) members ≡ true → map (row_member kept.state.tag) (map member_of members) ≡ members
  members_back [] is = refl
  members_back (member ∷ members) is =
      let parts = and_parts (is_usable kept.state caller t member) (list_all (is_usable kept.state caller t) members) is in
      let one : row_member kept.state.tag (member_of member) ≡ member = ap (λ (i : Id). let m : Option (List ℕ) × Id = (member.0, i) in m) (usable_id member parts.0) in
      ap (λ (m : Option (List ℕ) × Id). m ∷ map (row_member kept.state.tag) (map member_of members)) one
      ∙ ap (λ (ms : List (Option (List ℕ) × Id)). member ∷ ms) (members_back members parts.1)

each_fits : (members : List (Option (List ℕ) × Id)) → AllByRecursion checked.IsMemberInRange members → AllByRecursion IsMemberInRange (map member_of members)
each_fits [] each = tt
each_fits (member ∷ members) each = (record { name = each.0; secret = count_fits member.1 }, each_fits members each.1)

pub members_fit : (members : List (Option (List ℕ) × Id)) (list : List Member) → list ≡ map member_of members → length members ≤ 100 → AllByRecursion checked.IsMemberInRange members → AreMembersInRange list
members_fit members list is few each = subst AreMembersInRange (sym is) (record { few = omega (arith, length-map members member_of, few); each = each_fits members each })

pub new_container_fits : (kept : Kept) (put : put_type.ContainerPut) → IsContainerPutInRange put → put.id ≡ kept.state.ids → Fits kept (ContainerPut put)
new_container_fits kept put range next = record {
  range = range;
  rows = refl;
  applies = or_left _ _ (and_from (put.id == kept.state.ids) (nat_lt put.id (2 ^ 62)) (eq-eqb put.id kept.state.ids next) (le-leb _ _ range.id));
}

pub container_deletion_fits : (kept : Kept) (row : ContainerRow) (n : ℕ) → IsKeptContainer kept row → n ≡ count_of row.id → Fits kept (Deleted n)
container_deletion_fits kept row n is same = subst (λ (m : ℕ). Fits kept (Deleted m)) (sym same) (record {
  range = count_fits row.id;
  rows = refl;
  applies = subst (λ (i : Id). is_taken kept.state i ≡ true) (sym is.id) (or_left _ _ (or_right _ _ (ap is_some is.here)));
})
