-- The key of each token is there, whatever change applies.
use Rattle.std.proofs.Common.{◌≡◌, ℕ, ◌<◌, arith, Bool, true, false, not, cond, List, [], ◌∷◌, map, Option, Some, None, refl, sym, ap, ◌∙◌, inl, inr, IfSome}
use Rattle.std.specs.Prelude.{◌&&◌, find, filter, is_some, option_map}
use Rattle.std.specs.List.{AllByRecursion}
use Rattle.std.specs.Str.{bytes_eq}
use Rattle.std.proofs.lemmas.Bool.{cases_Bool, and_parts, and_from, eqb-true, eq-eqb, not-true, not_from_false, false_from_ne_true, both_ways}
use Rattle.std.proofs.lemmas.Slice.Eq.{bytes_eq-Decides}
use Rattle.kms_world.specs.Effect.{change_rows, with_payload, with_metadata, after_effect}
use Rattle.kms_world.specs.Id.{id_at, is_id}
use Rattle.kms_world.specs.State.{State}
use Rattle.kms_world.specs.declared.id.Id.{Id}
use Rattle.kms_world.specs.declared.payload.Payload.{Payload}
use Rattle.kms_world.specs.declared.secret.SecretRow.{SecretRow}
use Rattle.kms_record.specs.declared.change.Change.{Change}
use Rattle.kms_record.specs.declared.change.Change.TheVariants.{KeyAdded, KeyRewrapped, TokenReplaced, KeyDropped, SecretPut, PayloadPut, MetadataPut, ContainerPut, ConsumerAdded, ConsumerDropped, AclPut, AclDropped, OrderPut, QuotaPut, Deleted}
use Rattle.kms_record.specs.declared.key.WrappedKey.{WrappedKey}
use Rattle.kms_record.specs.declared.quota.QuotaLimits.{QuotaLimits}
use Rattle.kms_record.specs.ChangeEffect.{quota_effect}
use Rattle.kms_record.specs.SecretPut.{row_of}
use Rattle.kms_record.proofs.PairwiseLaws.{all_push}
use Rattle.kms_kept.specs.Kept.{Kept, Part, applies, changed, has, begins_with, is_key, is_under, key_of, insert_key, token_replaced}
use Rattle.kms_kept.specs.Rising.{Rises, IsRising}
use Rattle.kms_kept.specs.Sealed.{HasKey, IsUnderKey, AreUnderKeys}
use Rattle.kms_kept.proofs.JoinedLaws.{some_is}
use Rattle.kms_kept.proofs.KeptLists.{all_changed, all_filter, all_passed, all_rows, all_to, find_map, find_filter}
use Rattle.kms_kept.proofs.KeyLookUps.{is_key_parts, key_stays}

-- ---- rows that are changed by their id

none_later : {X : Type 0} (id_of : X → Id) (id : Id) (p : X → Bool) (x : X) (xs : List X) → is_id id (id_of x) ≡ true → AllByRecursion (λ (other : Id). (id_of x).0 < other.0) (map id_of xs) → AllByRecursion (λ y. is_id id (id_of y) ≡ true → p y ≡ true) xs
none_later {X} id_of id p x [] at above = tt
none_later {X} id_of id p x (y ∷ ys) at above = (λ e. absurd (omega (arith, above.0, eqb-true (id_of x).0 id.0 at, eqb-true (id_of y).0 id.0 e)), none_later id_of id p x ys at above.1)

-- where ids rise, what holds of the row that a look-up finds holds of each with this id
pub holds_of_all : {X : Type 0} (id_of : X → Id) (tag n : ℕ) (id : Id) (p : X → Bool) (rows : List X) → Rises tag n (map id_of rows) → has (find (λ r. is_id id (id_of r)) rows) p ≡ true → AllByRecursion (λ x. is_id id (id_of x) ≡ true → p x ≡ true) rows
holds_of_all {X} id_of tag n id p [] r h = tt
holds_of_all {X} id_of tag n id p (x ∷ xs) r h = elim (cases_Bool (is_id id (id_of x))) [
  | inl t ↦ (λ e. rw t at h, none_later id_of id p x xs t r.1)
  | inr f ↦ (λ e. absurd (both_ways (is_id id (id_of x)) f e), holds_of_all id_of tag n id p xs r.2 (rw f at h))
]

-- ---- keys that change

other_keys : (keys after : List WrappedKey) → ((project : List ℕ) (number : ℕ) → is_some (key_of project number keys) ≡ true → is_some (key_of project number after) ≡ true) → (project sealed : List ℕ) → HasKey keys project sealed → HasKey after project sealed
other_keys keys after stays project [] h = absurd h
other_keys keys after stays project (number ∷ token) h = stays project number h

payload_under : (keys after : List WrappedKey) → (project : List ℕ) (payload : Option Payload) → ((sealed : List ℕ) → HasKey keys project sealed → HasKey after project sealed) → IfSome payload (λ p. HasKey keys project p.bytes) → IfSome payload (λ p. HasKey after project p.bytes)
payload_under keys after project None step h = tt
payload_under keys after project (Some p) step h = step p.bytes h

under_keys : (keys after : List WrappedKey) → ((project : List ℕ) (number : ℕ) → is_some (key_of project number keys) ≡ true → is_some (key_of project number after) ≡ true) → (rows : List SecretRow) → AllByRecursion (IsUnderKey keys) rows → AllByRecursion (IsUnderKey after) rows
under_keys keys after stays rows each = all_to (IsUnderKey keys) (IsUnderKey after) (λ row h. payload_under keys after row.project row.payload (λ sealed u. other_keys keys after stays row.project sealed u) h) rows each

rewrapped_is_key : (project : List ℕ) (number : ℕ) (key other : WrappedKey) (b : Bool) → is_key project number (cond b (record other { wrapped = key.wrapped }) other) ≡ is_key project number other
rewrapped_is_key project number key other true = refl
rewrapped_is_key project number key other false = refl

some_option_map : {X : Type 0} (g : X → X) (o : Option X) → is_some o ≡ true → is_some (option_map g o) ≡ true
some_option_map g None h = h
some_option_map g (Some x) h = refl

rewrapped_there : (key : WrappedKey) (keys : List WrappedKey) (project : List ℕ) (number : ℕ) → is_some (key_of project number keys) ≡ true → is_some (key_of project number (change_rows (is_key key.project key.number) (λ other. record other { wrapped = key.wrapped }) keys)) ≡ true
rewrapped_there key keys project number h =
    let g = λ (x : WrappedKey). cond (is_key key.project key.number x) (record x { wrapped = key.wrapped }) x in
    ap is_some (find_map (is_key project number) g (λ x. rewrapped_is_key project number key x (is_key key.project key.number x)) keys)
    ∙ some_option_map g (key_of project number keys) h

-- ---- a key that goes

kept_key : (gone : List ℕ) (number : ℕ) (project : List ℕ) (n : ℕ) (token : List ℕ) → (bytes_eq gone project && begins_with number (n ∷ token)) ≡ false → (keys : List WrappedKey) → is_some (key_of project n keys) ≡ true → is_some (key_of project n (filter (λ k. not (is_key gone number k)) keys)) ≡ true
kept_key gone number project n token apart keys h =
    let there = some_is (key_of project n keys) h in
    ap is_some (find_filter (is_key project n) (λ k. not (is_key gone number k)) (λ k is. not_from_false (is_key gone number k) (false_from_ne_true (is_key gone number k) (λ goes.
    let a = is_key_parts project n k is in
    let b = is_key_parts gone number k goes in
    both_ways _ apart (and_from _ _ ((bytes_eq-Decides gone project).1 (b.0 ∙ sym a.0)) (eq-eqb n number (a.1 ∙ sym b.1)))))) keys there.0 there.1)

sealed_left : (gone : List ℕ) (number : ℕ) (keys : List WrappedKey) (project sealed : List ℕ) → (bytes_eq gone project && begins_with number sealed) ≡ false → HasKey keys project sealed → HasKey (filter (λ k. not (is_key gone number k)) keys) project sealed
sealed_left gone number keys project [] apart h = h
sealed_left gone number keys project (n ∷ token) apart h = kept_key gone number project n token apart keys h

payload_left : (gone : List ℕ) (number : ℕ) (keys : List WrappedKey) (project : List ℕ) (payload : Option Payload) → (bytes_eq gone project && has payload (λ (p : Payload). begins_with number p.bytes)) ≡ false → IfSome payload (λ p. HasKey keys project p.bytes) → IfSome payload (λ p. HasKey (filter (λ k. not (is_key gone number k)) keys) project p.bytes)
payload_left gone number keys project None apart h = tt
payload_left gone number keys project (Some p) apart h = sealed_left gone number keys project p.bytes apart h

all_and_then : {X : Type 0} (P Q R : X → Type 0) → ((x : X) → P x → Q x → R x) → (xs : List X) → AllByRecursion P xs → AllByRecursion Q xs → AllByRecursion R xs
all_and_then {X} P Q R step [] p q = tt
all_and_then {X} P Q R step (x ∷ xs) p q = (step x p.0 q.0, all_and_then P Q R step xs p.1 q.1)

-- ---- every change

replaced_under : (keys : List WrappedKey) (project : List ℕ) (payload : Option Payload) (number : ℕ) (token : List ℕ) → is_some (key_of project number keys) ≡ true → IfSome (option_map (λ (p : Payload). let q : Payload = record p { bytes = number ∷ token } in q) payload) (λ p. HasKey keys project p.bytes)
replaced_under keys project None number token h = tt
replaced_under keys project (Some p) number token h = h

quota_sealed : (keys : List WrappedKey) (project : List ℕ) (limits : Option QuotaLimits) (s : State) → AllByRecursion (IsUnderKey keys) s.secrets → AllByRecursion (IsUnderKey keys) (after_effect (quota_effect project limits) s).secrets
quota_sealed keys project None s each = each
quota_sealed keys project (Some limits) s each = each

pub change_sealed : (part : Part) (change : Change) (kept : Kept) → IsRising kept.state → AreUnderKeys kept → applies part change kept ≡ true → AreUnderKeys (changed change kept)
change_sealed part (KeyAdded key) kept r each fits =
    under_keys kept.keys (insert_key key kept.keys)
    (λ project number h. let there = some_is (key_of project number kept.keys) h in ap is_some (key_stays part key kept fits project number there.0 there.1)) kept.state.secrets each
change_sealed part (KeyRewrapped key) kept r each fits = under_keys kept.keys _ (rewrapped_there key kept.keys) kept.state.secrets each
change_sealed part (TokenReplaced put) kept r each fits =
    let s = kept.state in
    let id = id_at s.tag put.secret in
    let p = λ (row : SecretRow). is_some row.payload && is_some (key_of row.project put.number kept.keys) in
    all_changed (IsUnderKey kept.keys) (λ row. p row ≡ true) (λ row. is_id id row.id) (token_replaced (put.number ∷ put.token))
    (λ row at h under. replaced_under kept.keys row.project row.payload put.number put.token (and_parts _ _ h).1)
    s.secrets (holds_of_all (λ (x : SecretRow). x.id) s.tag s.ids id p s.secrets r.secrets fits) each
change_sealed part (KeyDropped put) kept r each fits =
    let apart = all_passed (λ (row : SecretRow). not (is_under put.project put.number row)) kept.state.secrets (and_parts _ _ fits).1 in
    all_and_then (λ (row : SecretRow). not (is_under put.project put.number row) ≡ true) (IsUnderKey kept.keys) (IsUnderKey (filter (λ k. not (is_key put.project put.number k)) kept.keys))
    (λ row free under. payload_left put.project put.number kept.keys row.project row.payload (not-true (is_under put.project put.number row) free) under) kept.state.secrets apart each
change_sealed part (SecretPut put) kept r each fits = all_push (IsUnderKey kept.keys) kept.state.secrets (row_of kept.state.tag put) each tt
change_sealed part (PayloadPut put) kept r each fits =
    let s = kept.state in
    let id = id_at s.tag put.secret in
    let p = λ (row : SecretRow). not (is_some row.payload) && is_some (key_of row.project put.number kept.keys) in
    all_changed (IsUnderKey kept.keys) (λ row. p row ≡ true) (λ row. is_id id row.id) (with_payload put.updated (record { media = put.media; bytes = put.number ∷ put.token }))
    (λ row at h under. (and_parts _ _ h).1)
    s.secrets (holds_of_all (λ (x : SecretRow). x.id) s.tag s.ids id p s.secrets r.secrets fits) each
change_sealed part (MetadataPut put) kept r each fits =
    all_rows (IsUnderKey kept.keys) (λ row. is_id (id_at kept.state.tag put.secret) row.id) (with_metadata put.updated put.pairs) (λ row under. under) kept.state.secrets each
change_sealed part (ContainerPut put) kept r each fits = each
change_sealed part (ConsumerAdded put) kept r each fits = each
change_sealed part (ConsumerDropped put) kept r each fits = each
change_sealed part (AclPut put) kept r each fits = each
change_sealed part (AclDropped id) kept r each fits = each
change_sealed part (OrderPut put) kept r each fits = each
change_sealed part (QuotaPut put) kept r each fits = quota_sealed kept.keys put.project put.limits kept.state each
change_sealed part (Deleted id) kept r each fits = all_filter (IsUnderKey kept.keys) (λ row. not (is_id (id_at kept.state.tag id) row.id)) kept.state.secrets each
