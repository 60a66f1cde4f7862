-- Rows that are found in what is kept.
use denote.Ref.{Bor}
use Rattle.std.proofs.Common.{◌≡◌, ℕ, ◌<◌, Bool, true, false, List, [], ◌∷◌, Option, Some, None, cond, refl, sym, ap, subst}
use Rattle.std.specs.Prelude.{find, IfSome, is_some, option_copied, option_map}
use Rattle.std.specs.Option.{ForSome}
use Rattle.std.specs.List.{AllByRecursion, list_any}
use Rattle.std.proofs.lemmas.Bool.{or_left, or_right}
use Rattle.kms_kept.specs.Kept.{Kept}
use Rattle.kms_kept.specs.OfGrammar.{IsSecret, IsContainer, IsAcl}
use Rattle.kms_kept.specs.Sound.{IsSound}
use Rattle.kms_model.proofs.SecretLaws.{found_passes, one_id}
use Rattle.kms_store.specs.KeptSecret.{token_alone, without_number}
use Rattle.kms_world.specs.Id.{is_id}
use Rattle.kms_world.specs.LookUp.{secret_of, container_of, acl_of}
use Rattle.kms_world.specs.Secret.{attributes_of, without_bytes}
use Rattle.kms_world.specs.Times.{IsTime, IsTimely, IsTimelyAcl, IsTimelyContainer, IsTimelyIfAny, end_of_times}
use Rattle.kms_world.specs.declared.acl.AclRow.{AclRow}
use Rattle.kms_world.specs.declared.container.ContainerRow.{ContainerRow}
use Rattle.kms_world.specs.declared.id.Id.{Id}
use Rattle.kms_world.specs.declared.payload.Payload.{Payload}
use Rattle.kms_world.specs.declared.secret.SecretRow.{SecretRow}
use Rattle.kms_operations.specs.Found.{IsKeptSecret, IsKeptContainer, IsTarget}

one_of : {X : Type 0} (P : X → Type 0) (b : Bool) (x : X) (others : Option X) → P x → IfSome others P → IfSome (cond b (Some x) others) P
one_of P true x others here there = here
one_of P false x others here there = there

-- what is found among rows that all are so is so
pub found_is : {X : Type 0} (P : X → Type 0) (test : X → Bool) (xs : List X) → AllByRecursion P xs → IfSome (find test xs) P
found_is P test [] each = tt
found_is P test (x ∷ xs) each = one_of P (test x) x (find test xs) each.0 (found_is P test xs each.1)

any_here : {X : Type 0} (test : X → Bool) (b : Bool) (x y : X) (xs : List X) → test x ≡ b → cond b (Some x) (find test xs) ≡ Some y → (find test xs ≡ Some y → list_any test xs ≡ true) → list_any test (x ∷ xs) ≡ true
any_here test true x y xs is e more = or_left (test x) (list_any test xs) is
any_here test false x y xs is e more = or_right (test x) (list_any test xs) (more e)

-- where one is found there is one
pub found_any : {X : Type 0} (test : X → Bool) (xs : List X) (y : X) → find test xs ≡ Some y → list_any test xs ≡ true
found_any test [] y is = absurd cc
found_any test (x ∷ xs) y is = any_here test (test x) x y xs refl is (found_any test xs y)

-- ---- secrets

pub kept_secret : (kept : Kept) (id : Id) (row : SecretRow) → IsSound kept → Some row ≡ secret_of id kept.state.secrets → IsKeptSecret kept row
kept_secret kept id row sound found =
    let test = λ (r : SecretRow). is_id id r.id in
    let named : row.id ≡ id = one_id id row.id (found_passes test kept.state.secrets row (sym found)) in
    record {
      here = subst (λ (i : Id). secret_of i kept.state.secrets ≡ Some row) (sym named) (sym found);
      is = subst (λ (x : Option SecretRow). IfSome x (IsSecret kept.state.tag)) (sym found) (found_is (IsSecret kept.state.tag) test kept.state.secrets sound.grammar.secrets);
    }

pub is_time : (t : Option ℕ) → IfSome t (λ n. n < end_of_times) → IsTime t
is_time None fits = tt
is_time (Some n) fits = fits

pub timely_secret : (kept : Kept) (row : SecretRow) → IsKeptSecret kept row → IsTimely (attributes_of row)
timely_secret kept row is =
    let range = is.is.attributes.0 in
    record { created = range.created; updated = range.updated; expiration = is_time row.expiration range.expiration }

unsealed : (payload : Option Payload) → option_map without_bytes (option_map token_alone payload) ≡ option_map without_bytes payload
unsealed None = refl
unsealed (Some payload) = refl

-- the attributes don't show what is kept of a payload
pub attributes_unsealed : (row : SecretRow) → attributes_of (without_number row) ≡ attributes_of row
attributes_unsealed row = ap (λ (p : Option Payload). let shown : SecretRow = record (attributes_of row) { payload = p } in shown) (unsealed row.payload)

-- ---- containers

pub kept_container : (kept : Kept) (id : Id) (row : ContainerRow) → IsSound kept → Some row ≡ container_of id kept.state.containers → IsKeptContainer kept row
kept_container kept id row sound found =
    let test = λ (r : ContainerRow). is_id id r.id in
    let named : row.id ≡ id = one_id id row.id (found_passes test kept.state.containers row (sym found)) in
    let is : IsContainer kept.state.tag row = subst (λ (x : Option ContainerRow). IfSome x (IsContainer kept.state.tag)) (sym found) (found_is (IsContainer kept.state.tag) test kept.state.containers sound.grammar.containers) in
    record {
      id = ap (λ (r : ContainerRow). r.id) is.put;
      here = subst (λ (i : Id). container_of i kept.state.containers ≡ Some row) (sym named) (sym found);
      is = is;
    }

pub timely_container : (kept : Kept) (row : ContainerRow) → IsKeptContainer kept row → IsTimelyContainer row
timely_container kept row is = let range = is.is.grammar.0 in record { created = range.created; updated = range.updated }

-- ---- what has access lists

pub secret_target_is : (kept : Kept) (row : SecretRow) → IsKeptSecret kept row → IsTarget kept row.id
secret_target_is kept row is = record { there = or_left _ _ (ap is_some is.here); is = is.is.id }

pub container_target_is : (kept : Kept) (row : ContainerRow) → IsKeptContainer kept row → IsTarget kept row.id
container_target_is kept row is = record { there = or_right _ _ (ap is_some is.here); is = is.id }

pub kept_acl : (kept : Kept) (target : Id) (row : AclRow) → IsSound kept → Some row ≡ acl_of target kept.state.acls → IsAcl kept.state.tag row
kept_acl kept target row sound found =
    subst (λ (x : Option AclRow). IfSome x (IsAcl kept.state.tag)) (sym found) (found_is (IsAcl kept.state.tag) (λ (r : AclRow). is_id target r.target) kept.state.acls sound.grammar.acls)

pub timely_acl : (tag : ℕ) (row : AclRow) → IsAcl tag row → IsTimelyAcl row
timely_acl tag row is = let range = is.grammar.0 in record { created = range.created; updated = range.updated }

-- ---- what look-ups find

pub secret_if_any : (kept : Kept) (id : Id) (found : Option SecretRow) → IsSound kept → found ≡ secret_of id kept.state.secrets → IfSome found (IsKeptSecret kept)
secret_if_any kept id None sound is = tt
secret_if_any kept id (Some row) sound is = kept_secret kept id row sound is

pub container_if_any : (kept : Kept) (id : Id) (found : Option ContainerRow) → IsSound kept → found ≡ container_of id kept.state.containers → IfSome found (IsKeptContainer kept)
container_if_any kept id None sound is = tt
container_if_any kept id (Some row) sound is = kept_container kept id row sound is

pub acl_if_any : (kept : Kept) (target : Id) (found : Option AclRow) → IsSound kept → found ≡ acl_of target kept.state.acls → IfSome found (IsAcl kept.state.tag)
acl_if_any kept target None sound is = tt
acl_if_any kept target (Some row) sound is = kept_acl kept target row sound is

pub some_same : {X : Type 0} (x y : X) → (let o : Option X = Some x in let p : Option X = Some y in o ≡ p) → x ≡ y
some_same x y is = cc

-- what holds of what was found holds of it once it is there
pub for_found : {X : Type 0} (P : X → Type 0) (found : Option (Bor X)) (x : Bor X) → found ≡ Some x → ForSome (option_copied found) P → P x.now
for_found {X} P None x e h = absurd cc
for_found {X} P (Some y) x e h = subst (λ (z : Bor X). P z.now) (some_same y x e) (h y.now refl)

pub timely_if_any : (tag : ℕ) (found : Option AclRow) → IfSome found (IsAcl tag) → IsTimelyIfAny found
timely_if_any tag None is = tt
timely_if_any tag (Some row) is = timely_acl tag row is
