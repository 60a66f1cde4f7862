-- Pairs that are kept are in range.
use Rattle.std.proofs.Common.{◌≡◌, ℕ, zero, suc, ◌≤◌, ◌<◌, true, List, [], ◌∷◌, length, map, slice_index_or, Some, IsTrue, refl, ap, subst, ◌∙◌, arith, inl, inr}
use Rattle.std.specs.Char.{to_ascii_lowercase}
use Rattle.std.specs.List.{AllByRecursion, list_all}
use Rattle.std.specs.Ordering.{is_gt}
use Rattle.std.specs.Str.{str_to_ascii_lowercase}
use Rattle.std.specs.declared.cmp.Ordering.{Ordering}
use Rattle.std.proofs.lemmas.Bool.{and_parts, and_from, cases_Bool, leb-true}
use Rattle.std.proofs.lemmas.Bool.Decides.{nat_tests}
use Rattle.kms_world.specs.Name.{is_name_byte}
use Rattle.kms_world.specs.Pairs.{is_below}
use Rattle.kms_secret.specs.Ascending.{ascend}
use Rattle.kms_secret.specs.Key.{is_key, key_of}
use Rattle.kms_secret.specs.Metadata.{is_pair, is_value, lowered, by_key, key_cmp, kept}
use Rattle.kms_secret.specs.Ranges.{IsPairInRange, ArePairsInRange}
use Rattle.kms_secret.specs.Sorted.{put, sorted}
use Rattle.kms_secret.proofs.AscendingLaws.{below_trans}
use Rattle.kms_secret.proofs.KeyLaws.{kept_is}
use Rattle.kms_secret.proofs.RuleLaws.{chosen}

-- ---- keys in lower case

lower_byte : (b : ℕ) → is_name_byte b ≡ true → is_name_byte (to_ascii_lowercase b) ≡ true
lower_byte b h = grind (arith, nat_tests)

byte_again : (b : ℕ) → to_ascii_lowercase (to_ascii_lowercase b) ≡ to_ascii_lowercase b
byte_again b = grind (arith, nat_tests)

lower_bytes : (text : List ℕ) → list_all is_name_byte text ≡ true → list_all is_name_byte (str_to_ascii_lowercase text) ≡ true
lower_bytes [] h = refl
lower_bytes (b ∷ text) h =
    let parts = and_parts _ _ h in
    and_from _ _ (lower_byte b parts.0) (lower_bytes text parts.1)

lower_again : (text : List ℕ) → str_to_ascii_lowercase (str_to_ascii_lowercase text) ≡ str_to_ascii_lowercase text
lower_again [] = refl
lower_again (b ∷ text) = rw (byte_again b, lower_again text) refl

lower_length : (text : List ℕ) → length (str_to_ascii_lowercase text) ≡ length text
lower_length [] = refl
lower_length (b ∷ text) = rw (lower_length text) refl

lower_key : (text : List ℕ) → is_key text ≡ true → is_key (str_to_ascii_lowercase text) ≡ true
lower_key text h =
    let parts = and_parts _ _ h in
    rw (lower_length text) (and_from _ _ parts.0 (lower_bytes text parts.1))

lower_own : (text : List ℕ) → is_key text ≡ true → key_of (str_to_ascii_lowercase text) ≡ Some (str_to_ascii_lowercase text)
lower_own text h = rw (lower_key text h, lower_again text) refl

-- a key that is read is read as itself
pub key_stays : (text key : List ℕ) → key_of text ≡ Some key → key_of key ≡ Some key
key_stays text key e =
    let p = chosen (is_key text) (str_to_ascii_lowercase text) key e in
    subst (λ (k : List ℕ). key_of k ≡ Some k) p.1 (lower_own text p.0)

-- ---- one pair

pub pair_in_range : (key value : List ℕ) → key_of key ≡ Some key → is_value value ≡ true → (let pair : List ℕ × List ℕ = (key, value) in IsPairInRange pair)
pair_in_range key value own short =
    let p = chosen (is_key key) (str_to_ascii_lowercase key) key own in
    let parts = and_parts _ _ p.0 in
    let sizes = and_parts _ _ parts.0 in
    record {
      own = own;
      some = leb-true 1 (length key) sizes.0;
      key = leb-true (length key) 255 sizes.1;
      value = leb-true (length value) 255 short;
    }

-- ---- all pairs

lowered_in_range : (pairs : List (List ℕ × List ℕ)) → list_all is_pair pairs ≡ true → AllByRecursion IsPairInRange (map lowered pairs)
lowered_in_range [] h = tt
lowered_in_range (pair ∷ pairs) h =
    let parts = and_parts _ _ h in
    let one = and_parts _ _ parts.0 in
    (pair_in_range (str_to_ascii_lowercase pair.0) pair.1 (lower_own pair.0 one.0) one.1, lowered_in_range pairs parts.1)

lowered_length : (pairs : List (List ℕ × List ℕ)) → length (map lowered pairs) ≡ length pairs
lowered_length [] = refl
lowered_length (pair ∷ pairs) = rw (lowered_length pairs) refl

module _ {X : Type 0} (cmp : X → X → Ordering) where
  put_length : (x : X) (ys : List X) → length (put cmp x ys) ≡ suc (length ys)
  put_length x [] = refl
  put_length x (y ∷ ys) = elim (cases_Bool (is_gt (cmp x y))) [
    | inl gt ↦ rw gt (ap suc (put_length x ys))
    | inr over ↦ rw over refl
  ]

  sorted_length : (xs : List X) → length (sorted cmp xs) ≡ length xs
  sorted_length [] = refl
  sorted_length (x ∷ xs) = put_length x (sorted cmp xs) ∙ ap suc (sorted_length xs)

  put_each : (P : X → Type 0) (x : X) (ys : List X) → P x → AllByRecursion P ys → AllByRecursion P (put cmp x ys)
  put_each P x [] one all = (one, tt)
  put_each P x (y ∷ ys) one all = elim (cases_Bool (is_gt (cmp x y))) [
    | inl gt ↦ rw gt (all.0, put_each P x ys one all.1)
    | inr over ↦ rw over (one, (all.0, all.1))
  ]

  sorted_each : (P : X → Type 0) (xs : List X) → AllByRecursion P xs → AllByRecursion P (sorted cmp xs)
  sorted_each P [] all = tt
  sorted_each P (x ∷ xs) all = put_each P x (sorted cmp xs) all.0 (sorted_each P xs all.1)

-- ---- keys that ascend

abbrev IsFirst : List ℕ × List ℕ → List ℕ × List ℕ → Type 0
IsFirst pair other = is_below pair.0 other.0 ≡ true

earlier : (pair next : List ℕ × List ℕ) (pairs : List (List ℕ × List ℕ)) → IsFirst pair next → AllByRecursion (IsFirst next) pairs → AllByRecursion (IsFirst pair) pairs
earlier pair next [] below all = tt
earlier pair next (other ∷ pairs) below all = (below_trans pair.0 next.0 other.0 below all.0, earlier pair next pairs below all.1)

first_of_all : (pair : List ℕ × List ℕ) (pairs : List (List ℕ × List ℕ)) → ascend (pair ∷ pairs) ≡ true → AllByRecursion (IsFirst pair) pairs
first_of_all pair [] up = tt
first_of_all pair (next ∷ pairs) up =
    let parts = and_parts _ _ up in
    (parts.0, earlier pair next pairs parts.0 (first_of_all next pairs parts.1))

rest_ascend : (pair : List ℕ × List ℕ) (pairs : List (List ℕ × List ℕ)) → ascend (pair ∷ pairs) ≡ true → ascend pairs ≡ true
rest_ascend pair [] up = refl
rest_ascend pair (next ∷ pairs) up = (and_parts _ _ up).1

each_at : (P : List ℕ × List ℕ → Type 0) (pairs : List (List ℕ × List ℕ)) (j : ℕ) (d : List ℕ × List ℕ) → AllByRecursion P pairs → j < length pairs → P (slice_index_or pairs j d)
each_at P [] j d all l = absurd (omega arith)
each_at P (pair ∷ pairs) zero d all l = all.0
each_at P (pair ∷ pairs) (suc j) d all l = each_at P pairs j d all.1 (omega arith)

below_at : (pairs : List (List ℕ × List ℕ)) → ascend pairs ≡ true → (i j : ℕ) (d : List ℕ × List ℕ) → i < j → j < length pairs → IsTrue (is_below (slice_index_or pairs i d).0 (slice_index_or pairs j d).0)
below_at [] up i j d lt within = absurd (omega arith)
below_at (pair ∷ pairs) up zero zero d lt within = absurd (omega arith)
below_at (pair ∷ pairs) up zero (suc j) d lt within = each_at (IsFirst pair) pairs j d (first_of_all pair pairs up) (omega arith)
below_at (pair ∷ pairs) up (suc i) zero d lt within = absurd (omega arith)
below_at (pair ∷ pairs) up (suc i) (suc j) d lt within = below_at pairs (rest_ascend pair pairs up) i j d (omega arith) (omega arith)

-- ----

pub pairs_in_range : (pairs found : List (List ℕ × List ℕ)) → length pairs ≤ 100 → list_all is_pair pairs ≡ true → kept pairs ≡ Some found → ArePairsInRange found
pairs_in_range pairs found few each e =
    let p = chosen (ascend (by_key (map lowered pairs))) (by_key (map lowered pairs)) found (kept_is pairs ∙ e) in
    let size : length (by_key (map lowered pairs)) ≡ length pairs = sorted_length key_cmp (map lowered pairs) ∙ lowered_length pairs in
    subst ArePairsInRange p.1 (record {
      few = omega arith;
      each = sorted_each key_cmp IsPairInRange (map lowered pairs) (lowered_in_range pairs each);
      ascending = record { below = below_at (by_key (map lowered pairs)) p.0 };
    })
