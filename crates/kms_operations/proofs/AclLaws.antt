-- Access lists that are put are in the range of a record.
use Rattle.std.proofs.Common.{◌≡◌, ℕ, ◌≤◌, ◌<◌, Bool, true, false, List, [], ◌∷◌, length, Option, Some, None, Result, Ok, Err, cond, refl, sym, subst, arith, unwrap_or, not}
use Rattle.std.specs.Prelude.{IfSome}
use Rattle.std.specs.List.{AllByRecursion, list_all}
use Rattle.std.specs.Str.{bytes_eq}
use Rattle.std.proofs.lemmas.Bool.{and_parts, leb-true}
use Rattle.kms_kept.proofs.KeptLists.{all_filter}
use Rattle.kms_kept.specs.Kept.{Kept}
use Rattle.kms_kept.specs.OfGrammar.{IsAcl}
use Rattle.kms_model.specs.AccessLists.{created_by, list_put, list_patched}
use Rattle.kms_policy.specs.Acl.{are_users, change_by, change_of, change_to, without_repeats}
use Rattle.kms_policy.specs.Policy.{users_listed}
use Rattle.kms_policy.specs.declared.acl.AclChange.{AclChange}
use Rattle.kms_record.specs.Acl.{AreUsersInRange, IsUserInRange}
use Rattle.kms_record.specs.Base.{acl_put_of}
use Rattle.kms_record.specs.declared.change.Change.TheVariants.{AclPut}
use Rattle.kms_record.specs.declared.acl.AclPut as put_type
use Rattle.kms_world.specs.Name.{is_name, is_name_byte}
use Rattle.kms_world.specs.Times.{end_of_times}
use Rattle.kms_world.specs.declared.acl.AclRow.{AclRow}
use Rattle.kms_world.specs.declared.body.AclBody.{AclBody}
use Rattle.kms_world.specs.declared.body.ReadBody.{ReadBody}
use Rattle.kms_world.specs.declared.id.Id.{Id}
use Rattle.kms_world.specs.declared.refusal.Field.TheVariants.{Users}
use Rattle.kms_world.specs.declared.refusal.Refusal.{Refusal}
use Rattle.kms_world.specs.declared.refusal.Refusal.TheVariants.{BadBody}
use Rattle.kms_operations.specs.Found.{IsTarget}
use Rattle.kms_operations.specs.Outcome.{Fits}
use Rattle.kms_secret.proofs.RuleLaws.{given, given_is}
use Rattle.kms_operations.proofs.FitLaws.{acl_fits}

pub name_short : (text : List ℕ) → is_name text ≡ true → length text ≤ 64
name_short text is =
    let parts = and_parts _ (list_all is_name_byte text) is in
    leb-true (length text) 64 (and_parts _ _ parts.0).1

names_short : (texts : List (List ℕ)) → list_all is_name texts ≡ true → AllByRecursion IsUserInRange (without_repeats texts)
names_short [] is = tt
names_short (text ∷ texts) is =
    let parts = and_parts (is_name text) (list_all is_name texts) is in
    (name_short text parts.0, all_filter IsUserInRange (λ n. not (bytes_eq n text)) (without_repeats texts) (names_short texts parts.1))

users_fit : (texts : List (List ℕ)) → are_users texts ≡ true → AreUsersInRange (without_repeats texts)
users_fit texts is =
    let parts = and_parts (list_all is_name texts) _ is in
    record { few = leb-true (length (without_repeats texts)) 100 parts.1; each = names_short texts parts.0 }

change_same : (a b : AclChange) → (let x : Result AclChange Refusal = Ok a in let y : Result AclChange Refusal = Ok b in x ≡ y) → a ≡ b
change_same a b e = cc

-- the users of a checked change
pub users_checked : (body : AclBody) (change : AclChange) → change_of body ≡ Ok change → IfSome change.users AreUsersInRange
users_checked body change is = by_read body.read is
  where
    by_test : (texts : List (List ℕ)) (access : Option Bool) (b : Bool) → are_users texts ≡ b
        → (let made : AclChange = record { users = Some (without_repeats texts); project_access = access } in let checked : Result AclChange Refusal = cond b (Ok made) (Err (BadBody Users)) in checked ≡ Ok change) → IfSome change.users AreUsersInRange
    by_test texts access true t e = subst (λ (x : AclChange). IfSome x.users AreUsersInRange) (change_same _ change e) (users_fit texts t)
    by_test texts access false t e = absurd cc

    by_users : (users : Option (List (List ℕ))) (access : Option Bool) → change_to users access ≡ Ok change → IfSome change.users AreUsersInRange
    by_users None access e = subst (λ (x : AclChange). IfSome x.users AreUsersInRange) (change_same _ change e) tt
    by_users (Some texts) access e = by_test texts access (are_users texts) refl e

    by_read : (read : Option ReadBody) → change_by read ≡ Ok change → IfSome change.users AreUsersInRange
    by_read None e = absurd cc
    by_read (Some read) e = by_users read.users read.project_access e

no_users : AreUsersInRange []
no_users = record { few = omega arith; each = tt }

pub users_put_fit : (users : Option (List (List ℕ))) → IfSome users AreUsersInRange → AreUsersInRange (unwrap_or users [])
users_put_fit None fit = no_users
users_put_fit (Some users) fit = fit

pub users_listed_fit : (tag : ℕ) (old : Option AclRow) → IfSome old (IsAcl tag) → AreUsersInRange (users_listed old)
users_listed_fit tag None is = no_users
users_listed_fit tag (Some acl) is = is.grammar.0.users

pub users_patched_fit : (users : Option (List (List ℕ))) (others : List (List ℕ)) → IfSome users AreUsersInRange → AreUsersInRange others → AreUsersInRange (unwrap_or users others)
users_patched_fit None others fit other = other
users_patched_fit (Some users) others fit other = fit

pub created_in_time : (tag : ℕ) (old : Option AclRow) (t : ℕ) → IfSome old (IsAcl tag) → t < end_of_times → created_by old t < end_of_times
created_in_time tag None t is time = time
created_in_time tag (Some acl) t is time = is.grammar.0.created

pub put_fits : (kept : Kept) (target : Id) (old : Option AclRow) (body : AclBody) (change : AclChange) (t : ℕ) (put : put_type.AclPut) → IsTarget kept target → IfSome old (IsAcl kept.state.tag)
    → change_of body ≡ Ok change → t < end_of_times → put ≡ acl_put_of (list_put target old change t) → Fits kept (AclPut put)
put_fits kept target old body change t put is there checked time same =
    subst (λ (p : put_type.AclPut). Fits kept (AclPut p)) (sym same)
    (acl_fits kept (list_put target old change t) is (created_in_time kept.state.tag old t there time) time (users_put_fit change.users (users_checked body change checked)))

pub patch_fits : (kept : Kept) (target : Id) (old : Option AclRow) (body : AclBody) (change : AclChange) (t : ℕ) (put : put_type.AclPut) → IsTarget kept target → IfSome old (IsAcl kept.state.tag)
    → change_of body ≡ Ok change → t < end_of_times → given (acl_put_of (list_patched target old change t)) ≡ given put → Fits kept (AclPut put)
patch_fits kept target old body change t put is there checked time same =
    subst (λ (p : put_type.AclPut). Fits kept (AclPut p)) (given_is _ put same)
    (acl_fits kept (list_patched target old change t) is (created_in_time kept.state.tag old t there time) time
    (users_patched_fit change.users (users_listed old) (users_checked body change checked) (users_listed_fit kept.state.tag old there)))
