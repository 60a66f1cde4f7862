-- Keys stand by project and number, whatever change applies.
use Rattle.std.proofs.Common.{◌≡◌, ℕ, ◌<◌, Bool, true, false, not, cond, ltb, List, [], ◌∷◌, map, refl, sym, ap, subst, ◌∙◌, arith, inl, inr}
use Rattle.std.specs.Prelude.{◌||◌, filter}
use Rattle.std.specs.List.{AllByRecursion, list_all}
use Rattle.std.specs.Str.{bytes_eq}
use Rattle.std.proofs.lemmas.Bool.{cases_Bool, and_parts, or_cases, ltb-true, not-true}
use Rattle.std.proofs.lemmas.Slice.Eq.{bytes_eq-Decides}
use Rattle.kms_world.specs.Pairs.{is_below}
use Rattle.kms_record.specs.declared.change.Change.{Change}
use Rattle.kms_record.specs.declared.change.Change.TheVariants.{KeyAdded, KeyRewrapped, TokenReplaced, KeyDropped, SecretPut, PayloadPut, MetadataPut, ContainerPut, ConsumerAdded, ConsumerDropped, AclPut, AclDropped, OrderPut, QuotaPut, Deleted}
use Rattle.kms_record.specs.declared.key.WrappedKey.{WrappedKey}
use Rattle.kms_kept.specs.Kept.{Kept, Part, applies, changed, is_key, is_key_below, insert_key}
use Rattle.kms_kept.specs.KeyNumbers.{IsKeyBelow, KeysAscend, StandApart, KeysStandApart}
use Rattle.kms_kept.proofs.KeptLists.{all_filter, all_passed, all_to}
use Rattle.kms_kept.proofs.KeyOrderLaws.{Below, below_of, below_itself, key_below_trans, key_below_other}

-- ---- a key comes

-- where both are the same project's, the second has the greater number
abbrev pub IsLater : WrappedKey → WrappedKey → Type 0
IsLater a b = a.project ≡ b.project → a.number < b.number

pub all_insert : (P : WrappedKey → Type 0) (key : WrappedKey) (keys : List WrappedKey) → P key → AllByRecursion P keys → AllByRecursion P (insert_key key keys)
all_insert P key [] new each = (new, tt)
all_insert P key (x ∷ xs) new each = elim (cases_Bool (is_key_below key x)) [
  | inl t ↦ rw t (new, each)
  | inr f ↦ rw f (each.0, all_insert P key xs new each.1)
]

all_below : (key x : WrappedKey) (keys : List WrappedKey) → IsKeyBelow key x → AllByRecursion (IsKeyBelow x) keys → AllByRecursion (IsKeyBelow key) keys
all_below key x keys first each = all_to (IsKeyBelow x) (IsKeyBelow key) (λ other h. key_below_trans key x other first h) keys each

insert_ascends : (key : WrappedKey) (keys : List WrappedKey) → KeysAscend keys → 0 < key.number → AllByRecursion (λ (other : WrappedKey). IsLater other key) keys → KeysAscend (insert_key key keys)
insert_ascends key [] ascend some before = (some, tt, tt)
insert_ascends key (x ∷ xs) ascend some before = elim (cases_Bool (is_key_below key x)) [
  | inl t ↦ rw t (some, (t, all_below key x xs t ascend.1), ascend)
  | inr f ↦
      let above : IsKeyBelow x key = key_below_other key x f (λ project number. absurd (omega (arith, before.0 (sym project), number))) in
      rw f (ascend.0, all_insert (IsKeyBelow x) key xs above ascend.1, insert_ascends key xs ascend.2 some before.1)
]

earlier : (key other : WrappedKey) → (not (bytes_eq key.project other.project) || ltb other.number key.number) ≡ true → IsLater other key
earlier key other passed same = elim (or_cases _ _ passed) [
  | inl apart ↦
      let clash : true ≡ false = sym ((bytes_eq-Decides key.project other.project).1 (sym same)) ∙ not-true (bytes_eq key.project other.project) apart in absurd cc
  | inr less ↦ ltb-true other.number key.number less
]

-- ---- one is wrapped anew

rewrapped : (key other : WrappedKey) → WrappedKey
rewrapped key other = cond (is_key key.project key.number other) (record other { wrapped = key.wrapped }) other

Same : (a b : WrappedKey) → Type 0
Same a b = (b.project ≡ a.project) × (b.number ≡ a.number)

same_step : (key other : WrappedKey) (b : Bool) → Same other (cond b (record other { wrapped = key.wrapped }) other)
unfolding Same
same_step key other true = (refl, refl)
same_step key other false = (refl, refl)

same_key : (key other : WrappedKey) → Same other (rewrapped key other)
unfolding rewrapped
same_key key other = same_step key other (is_key key.project key.number other)

below_same : (a b c d : WrappedKey) → Same a c → Same b d → IsKeyBelow a b → IsKeyBelow c d
unfolding Same
below_same a b c d first second below =
    let moved : is_key_below c d ≡ is_key_below a b =
    ap (λ (p : List ℕ). let k : WrappedKey = record c { project = p } in is_key_below k d) first.0
    ∙ ap (λ (n : ℕ). let k : WrappedKey = record c { project = a.project; number = n } in is_key_below k d) first.1
    ∙ ap (λ (p : List ℕ). let k : WrappedKey = record d { project = p } in is_key_below a k) second.0
    ∙ ap (λ (n : ℕ). let k : WrappedKey = record d { project = b.project; number = n } in is_key_below a k) second.1 in
    moved ∙ below

all_rewrapped : (key x : WrappedKey) (keys : List WrappedKey) → AllByRecursion (IsKeyBelow x) keys → AllByRecursion (IsKeyBelow (rewrapped key x)) (map (rewrapped key) keys)
all_rewrapped key x [] each = tt
all_rewrapped key x (y ∷ ys) each = (below_same x y (rewrapped key x) (rewrapped key y) (same_key key x) (same_key key y) each.0, all_rewrapped key x ys each.1)

map_ascends : (key : WrappedKey) (keys : List WrappedKey) → KeysAscend keys → KeysAscend (map (rewrapped key) keys)
unfolding Same
map_ascends key [] ascend = tt
map_ascends key (x ∷ xs) ascend = (subst (λ (n : ℕ). 0 < n) (sym (same_key key x).1) ascend.0, all_rewrapped key x xs ascend.1, map_ascends key xs ascend.2)

-- ---- one goes

filter_ascends : (keep : WrappedKey → Bool) (keys : List WrappedKey) → KeysAscend keys → KeysAscend (filter keep keys)
filter_ascends keep [] ascend = tt
filter_ascends keep (x ∷ xs) ascend = elim (cases_Bool (keep x)) [
  | inl t ↦ rw t (ascend.0, all_filter (IsKeyBelow x) keep xs ascend.1, filter_ascends keep xs ascend.2)
  | inr f ↦ rw f (filter_ascends keep xs ascend.2)
]

-- ---- every change

pub all_earlier : (key : WrappedKey) (keys : List WrappedKey) → list_all (λ (other : WrappedKey). not (bytes_eq key.project other.project) || ltb other.number key.number) keys ≡ true → AllByRecursion (λ (other : WrappedKey). IsLater other key) keys
all_earlier key keys passed =
    all_to _ _ (λ other e. earlier key other e) keys (all_passed (λ (other : WrappedKey). not (bytes_eq key.project other.project) || ltb other.number key.number) keys passed)

pub keys_ascend : (part : Part) (change : Change) (kept : Kept) → KeysAscend kept.keys → applies part change kept ≡ true → KeysAscend (changed change kept).keys
unfolding rewrapped
keys_ascend part (KeyAdded key) kept ascend fits =
    let parts = and_parts _ _ fits in
    insert_ascends key kept.keys ascend (ltb-true 0 key.number parts.0) (all_earlier key kept.keys parts.1)
keys_ascend part (KeyRewrapped key) kept ascend fits = map_ascends key kept.keys ascend
keys_ascend part (TokenReplaced put) kept ascend fits = ascend
keys_ascend part (KeyDropped put) kept ascend fits = filter_ascends (λ k. not (is_key put.project put.number k)) kept.keys ascend
keys_ascend part (SecretPut put) kept ascend fits = ascend
keys_ascend part (PayloadPut put) kept ascend fits = ascend
keys_ascend part (MetadataPut put) kept ascend fits = ascend
keys_ascend part (ContainerPut put) kept ascend fits = ascend
keys_ascend part (ConsumerAdded put) kept ascend fits = ascend
keys_ascend part (ConsumerDropped put) kept ascend fits = ascend
keys_ascend part (AclPut put) kept ascend fits = ascend
keys_ascend part (AclDropped id) kept ascend fits = ascend
keys_ascend part (OrderPut put) kept ascend fits = ascend
keys_ascend part (QuotaPut put) kept ascend fits = ascend
keys_ascend part (Deleted id) kept ascend fits = ascend

-- ---- no two keys of one project have the same number

below_apart : (a b : WrappedKey) → Below a b → StandApart a b
below_apart a b (inl below) project number = below_itself b.project (subst (λ (p : List ℕ). is_below p b.project ≡ true) project below)
below_apart a b (inr above) project number = absurd (omega (arith, above.1, number))

pub ascending_apart : (keys : List WrappedKey) → KeysAscend keys → KeysStandApart keys
ascending_apart [] ascend = tt
ascending_apart (x ∷ xs) ascend = (all_to (IsKeyBelow x) (StandApart x) (λ other h. below_apart x other (below_of x other h)) xs ascend.1, ascending_apart xs ascend.2)
