-- Pairs of metadata in the order of their keys.
use Rattle.std.proofs.Common.{◌≡◌, ℕ, ◌+◌, ◌<◌, ◌≤◌, Bool, true, false, List, [], ◌∷◌, ◌++◌, length, take, get_or, Some, cond, refl, sym, ap, subst, ◌∙◌, arith, length-append}
use Rattle.std.specs.Prelude.{None, Ok, Option, filter, find, nat_lt, not, option_and_then}
use Rattle.std.specs.Str.{bytes_eq}
use Rattle.std.proofs.lemmas.List.{get_or-take, get_or_default, length-take-le}
use Rattle.std.proofs.lemmas.List.Elements.{All-append, All-cons, All-filter, All-nil, filter_passes}
use Rattle.std.proofs.lemmas.Slice.Eq.{bytes_eq-Decides}
use Rattle.std.specs.List.{AllByRecursion}
use Rattle.std.proofs.lemmas.List.Sums.{length-filter, count_by-le-length}
use Rattle.kms_kept.proofs.KeptLists.{all_filter}
use Rattle.kms_kept.proofs.KeyOrderLaws.{below_itself}
use Rattle.kms_record.specs.Metadata.{IsPairInRange, ArePairsInRange}
use Rattle.kms_secret.specs.Ranges as checked
use Rattle.kms_secret.proofs.AscendingLaws.{below_trans}
use Rattle.std.proofs.lemmas.Bool.{ltb-true}
use Rattle.kms_model.proofs.SecretLaws.{found_passes, gave, held}
use Rattle.kms_model.specs.Done.{only_if, there}
use Rattle.kms_model.specs.Metadata.{may_add, pair_of, with_pair, without_key}
use Rattle.kms_secret.proofs.RuleLaws.{given, given_is}
use Rattle.kms_secret.specs.Key.{key_of}
use Rattle.kms_world.specs.Pairs.{Ascends, is_below}
use Rattle.kms_operations.specs.Pairs.{AreAround, IsAfterAll}

-- each of the first so many comes before the one after them
pub first_before : (pairs : List (List ℕ × List ℕ)) (i : ℕ) (pair : List ℕ × List ℕ) → Ascends pairs → i < length pairs → pair ≡ get_or pairs i pair → IsAfterAll pair (take i pairs)
first_before pairs i pair up lt at k d less =
    let few : length (take i pairs) ≡ i = length-take-le i pairs (omega arith) in
    let below : k < i = omega (arith, few, less) in
    let here : get_or pairs i d ≡ pair = get_or_default pairs i d pair lt ∙ sym at in
    let is : is_below (get_or pairs k d).0 (get_or pairs i d).0 ≡ true = up.below k i d below lt in
    let next : is_below (get_or pairs k d).0 pair.0 ≡ true = subst (λ (p : List ℕ × List ℕ). is_below (get_or pairs k d).0 p.0 ≡ true) here is in
    subst (λ (p : List ℕ × List ℕ). is_below p.0 pair.0 ≡ true) (sym (get_or-take i pairs k d below)) next

-- those that pass a test among them too
pub some_before : (test : List ℕ × List ℕ → Bool) (pairs : List (List ℕ × List ℕ)) (i : ℕ) (pair : List ℕ × List ℕ) → Ascends pairs → i < length pairs → pair ≡ get_or pairs i pair → IsAfterAll pair (filter test (take i pairs))
some_before test pairs i pair up lt at = All-filter test (λ p. is_below p.0 pair.0 ≡ true) (take i pairs) (first_before pairs i pair up lt at)

-- a pair comes after those whose keys come before its own
pub after_those : (pair : List ℕ × List ℕ) (pairs : List (List ℕ × List ℕ)) → IsAfterAll pair (filter (λ p. is_below p.0 pair.0) pairs)
after_those pair pairs = filter_passes (λ (p : List ℕ × List ℕ). is_below p.0 pair.0) pairs

-- and what comes after its key comes after those and after it
pub around : (pair : List ℕ × List ℕ) (pairs : List (List ℕ × List ℕ)) → AreAround pair.0 (filter (λ p. is_below p.0 pair.0) pairs ++ pair ∷ [])
around pair pairs other after =
    All-append (λ (p : List ℕ × List ℕ). is_below p.0 other.0 ≡ true) (filter (λ p. is_below p.0 pair.0) pairs) (pair ∷ [])
    (λ k d lt. below_trans _ pair.0 other.0 (after_those pair pairs k d lt) after)
    (All-cons (λ (p : List ℕ × List ℕ). is_below p.0 other.0 ≡ true) pair [] after (All-nil (λ (p : List ℕ × List ℕ). is_below p.0 other.0 ≡ true)))

-- ---- how many they are

-- one comes before a key, after it, or neither
module _ (key : List ℕ) where
  abbrev fore : List ℕ × List ℕ → Bool
  fore p = is_below p.0 key

  abbrev aft : List ℕ × List ℕ → Bool
  aft p = is_below key p.0

  pub most : (pairs : List (List ℕ × List ℕ)) → length (filter fore pairs) + length (filter aft pairs) ≤ length pairs
  most [] = omega arith
  most (p ∷ pairs) = step (fore p) refl (aft p) refl (most pairs)
    where
      step : (b : Bool) → fore p ≡ b → (c : Bool) → aft p ≡ c → length (filter fore pairs) + length (filter aft pairs) ≤ length pairs
          → length (cond b (p ∷ filter fore pairs) (filter fore pairs)) + length (cond c (p ∷ filter aft pairs) (filter aft pairs)) ≤ length (p ∷ pairs)
      step true is true too h = absurd (below_itself key (below_trans key p.0 key too is))
      step true is false too h = omega (arith, h)
      step false is true too h = omega (arith, h)
      step false is false too h = omega (arith, h)

  -- where the key is there they are fewer
  none_fore : (p : List ℕ × List ℕ) → key ≡ p.0 → (b : Bool) → fore p ≡ b → b ≡ false
  none_fore p is true e = absurd (below_itself key (subst (λ (k : List ℕ). is_below k key ≡ true) (sym is) e))
  none_fore p is false e = refl

  none_aft : (p : List ℕ × List ℕ) → key ≡ p.0 → (b : Bool) → aft p ≡ b → b ≡ false
  none_aft p is true e = absurd (below_itself key (subst (λ (k : List ℕ). is_below key k ≡ true) (sym is) e))
  none_aft p is false e = refl

  step_fewer : (p : List ℕ × List ℕ) (pairs : List (List ℕ × List ℕ)) (b : Bool) → fore p ≡ b → (c : Bool) → aft p ≡ c → length (filter fore pairs) + length (filter aft pairs) < length pairs
      → length (cond b (p ∷ filter fore pairs) (filter fore pairs)) + length (cond c (p ∷ filter aft pairs) (filter aft pairs)) < length (p ∷ pairs)
  step_fewer p pairs true is true too h = absurd (below_itself key (below_trans key p.0 key too is))
  step_fewer p pairs true is false too h = omega (arith, h)
  step_fewer p pairs false is true too h = omega (arith, h)
  step_fewer p pairs false is false too h = omega (arith, h)

  pub fewer : (pairs : List (List ℕ × List ℕ)) (pair : List ℕ × List ℕ) → find (λ p. bytes_eq key p.0) pairs ≡ Some pair → length (filter fore pairs) + length (filter aft pairs) < length pairs
  fewer [] pair found = absurd cc
  fewer (p ∷ pairs) pair found = step (bytes_eq key p.0) refl found (fewer pairs pair)
    where
      step : (b : Bool) → bytes_eq key p.0 ≡ b → cond b (Some p) (find (λ q. bytes_eq key q.0) pairs) ≡ Some pair
          → (find (λ q. bytes_eq key q.0) pairs ≡ Some pair → length (filter fore pairs) + length (filter aft pairs) < length pairs)
          → length (filter fore (p ∷ pairs)) + length (filter aft (p ∷ pairs)) < length (p ∷ pairs)
      step true same e more =
          let is : key ≡ p.0 = (bytes_eq-Decides key p.0).0 same in
          rw (none_fore p is (fore p) refl, none_aft p is (aft p) refl) (omega (arith, most pairs))
      step false same e more = step_fewer p pairs (fore p) refl (aft p) refl (more e)

-- ---- in range

all_append : {A : Type 0} (P : A → Type 0) (xs ys : List A) → AllByRecursion P xs → AllByRecursion P ys → AllByRecursion P (xs ++ ys)
all_append P [] ys a b = b
all_append P (x ∷ xs) ys a b = (a.0, all_append P xs ys a.1 b)

-- the ranges of what a check keeps of a body are those of a record
pub pair_records : (pair : List ℕ × List ℕ) → checked.IsPairInRange pair → IsPairInRange pair
pair_records pair range = record { key = range.key; value = range.value }

each_records : (pairs : List (List ℕ × List ℕ)) → AllByRecursion checked.IsPairInRange pairs → AllByRecursion IsPairInRange pairs
each_records [] each = tt
each_records (pair ∷ pairs) each = (pair_records pair each.0, each_records pairs each.1)

pub pairs_record : (pairs : List (List ℕ × List ℕ)) → checked.ArePairsInRange pairs → ArePairsInRange pairs
pairs_record pairs range = record { few = range.few; each = each_records pairs range.each }

with_each : (pair : List ℕ × List ℕ) (pairs : List (List ℕ × List ℕ)) → IsPairInRange pair → AllByRecursion IsPairInRange pairs → AllByRecursion IsPairInRange (with_pair pair pairs)
with_each pair pairs one each =
    all_append IsPairInRange (filter (λ p. is_below p.0 pair.0) pairs) (pair ∷ filter (λ p. is_below pair.0 p.0) pairs)
    (all_filter IsPairInRange (λ p. is_below p.0 pair.0) pairs each)
    (one, all_filter IsPairInRange (λ p. is_below pair.0 p.0) pairs each)

with_length : (pair : List ℕ × List ℕ) (pairs : List (List ℕ × List ℕ)) → length (with_pair pair pairs) ≡ length (filter (fore pair.0) pairs) + (1 + length (filter (aft pair.0) pairs))
with_length pair pairs = length-append (filter (fore pair.0) pairs) (pair ∷ filter (aft pair.0) pairs) ∙ omega arith

-- with one more, where there are fewer than 100
pub with_new : (pair : List ℕ × List ℕ) (pairs : List (List ℕ × List ℕ)) → IsPairInRange pair → ArePairsInRange pairs → length pairs < 100 → ArePairsInRange (with_pair pair pairs)
with_new pair pairs one range few = record { few = omega (arith, with_length pair pairs, most pair.0 pairs, few); each = with_each pair pairs one range.each }

-- with one in the place of another
pub with_other : (pair old : List ℕ × List ℕ) (pairs : List (List ℕ × List ℕ)) → IsPairInRange pair → ArePairsInRange pairs → find (λ p. bytes_eq pair.0 p.0) pairs ≡ Some old → ArePairsInRange (with_pair pair pairs)
with_other pair old pairs one range there = record { few = omega (arith, with_length pair pairs, fewer pair.0 pairs old there, range.few); each = with_each pair pairs one range.each }

filter_shorter : {A : Type 0} (test : A → Bool) (xs : List A) → length (filter test xs) ≤ length xs
filter_shorter test xs = omega (arith, length-filter test xs, count_by-le-length test xs)

pub without_one : (key : List ℕ) (pairs : List (List ℕ × List ℕ)) → ArePairsInRange pairs → ArePairsInRange (without_key key pairs)
without_one key pairs range = record {
  few = omega (arith, filter_shorter (λ (p : List ℕ × List ℕ). not (bytes_eq key p.0)) pairs, range.few);
  each = all_filter IsPairInRange (λ (p : List ℕ × List ℕ). not (bytes_eq key p.0)) pairs range.each;
}

-- ---- what operations put

room : (key : List ℕ) (pairs : List (List ℕ × List ℕ)) (x : Unit {0}) → may_add key pairs ≡ Ok x → length pairs < 100
room key pairs x is = ltb-true (length pairs) 100 (held _ _ _ (gave (only_if (nat_lt (length pairs) 100) _) _ x is).1)

pub new_fits : (pair : List ℕ × List ℕ) (metadata slice old pairs : List (List ℕ × List ℕ)) (x : Unit {0}) → ArePairsInRange metadata → checked.IsPairInRange pair → slice ≡ metadata → old ≡ metadata
    → may_add pair.0 slice ≡ Ok x → given (with_pair pair old) ≡ given pairs → ArePairsInRange pairs
new_fits pair metadata slice old pairs x range one seen is may put =
    let few : length metadata < 100 = subst (λ (xs : List (List ℕ × List ℕ)). length xs < 100) seen (room pair.0 slice x may) in
    subst ArePairsInRange (ap (with_pair pair) (sym is) ∙ given_is _ pairs put) (with_new pair metadata (pair_records pair one) range few)

-- the pair that a text in a path names has the key that it names
record Names (text : Option (List ℕ)) (pairs : List (List ℕ × List ℕ)) (old : List ℕ × List ℕ) : Type 0 where
  key : List ℕ
  found : find (λ p. bytes_eq key p.0) pairs ≡ Some old

names : (text : Option (List ℕ)) (pairs : List (List ℕ × List ℕ)) (old : List ℕ × List ℕ) → there (pair_of text pairs) ≡ Ok old → Names text pairs old
names text pairs old is = by (option_and_then key_of text) is
  where
    some : (o : Option (List ℕ × List ℕ)) → there o ≡ Ok old → o ≡ Some old
    some None e = absurd cc
    some (Some x) e = cc

    by : (key : Option (List ℕ)) → there (option_and_then (λ k. find (λ p. bytes_eq k p.0) pairs) key) ≡ Ok old → Names text pairs old
    by None e = absurd cc
    by (Some key) e = record { key = key; found = some (find (λ p. bytes_eq key p.0) pairs) e }

pub other_fits : (text : Option (List ℕ)) (pair was : List ℕ × List ℕ) (metadata slice old pairs : List (List ℕ × List ℕ)) → ArePairsInRange metadata → checked.IsPairInRange pair → slice ≡ metadata → old ≡ metadata
    → there (pair_of text slice) ≡ Ok was → bytes_eq pair.0 was.0 ≡ true → given (with_pair pair old) ≡ given pairs → ArePairsInRange pairs
other_fits text pair was metadata slice old pairs range one seen is named same put =
    let n = names text slice was named in
    let key : n.key ≡ was.0 = (bytes_eq-Decides n.key was.0).0 (found_passes (λ (p : List ℕ × List ℕ). bytes_eq n.key p.0) slice was n.found) in
    let own : n.key ≡ pair.0 = key ∙ sym ((bytes_eq-Decides pair.0 was.0).0 same) in
    let there_is : find (λ (p : List ℕ × List ℕ). bytes_eq pair.0 p.0) metadata ≡ Some was =
    subst (λ (xs : List (List ℕ × List ℕ)). find (λ (p : List ℕ × List ℕ). bytes_eq pair.0 p.0) xs ≡ Some was) seen
    (subst (λ (k : List ℕ). find (λ (p : List ℕ × List ℕ). bytes_eq k p.0) slice ≡ Some was) own n.found) in
    subst ArePairsInRange (ap (with_pair pair) (sym is) ∙ given_is _ pairs put) (with_other pair was metadata (pair_records pair one) range there_is)

pub fewer_fits : (key : List ℕ) (metadata old pairs : List (List ℕ × List ℕ)) → ArePairsInRange metadata → old ≡ metadata → given (without_key key old) ≡ given pairs → ArePairsInRange pairs
fewer_fits key metadata old pairs range is put = subst ArePairsInRange (ap (without_key key) (sym is) ∙ given_is _ pairs put) (without_one key metadata range)
