-- Where the places that a list shows rise, so do those of its page that tie.
use Rattle.std.proofs.Common.{◌≡◌, ℕ, ◌+◌, ◌<◌, Bool, true, false, cond, ◌==◌, List, get_or, refl, ap, ◌∙◌, arith}
use Rattle.std.specs.Cmp.{IsTotalOrder, IsStrictWeakOrder}
use Rattle.std.specs.declared.cmp.Ordering.{Ordering}
use Rattle.std.specs.declared.cmp.Ordering.TheVariants.{Less, Equal, Greater}
use Rattle.std.specs.Ordering.{is_lt, nat_cmp, then_cmp, ordering_then, ordering_reverse}
use Rattle.std.specs.List.Sorted.{IsSorted, IsSortedBy, IsStable, IsStrictlyIncreasing, ties}
use Rattle.std.proofs.lemmas.Bool.{le-ltb}
use Rattle.std.proofs.lemmas.Cmp.{nat_cmp_total}
use Rattle.std.proofs.lemmas.List.Kept.{AllPairs-from_increasing, IsStrictlyIncreasing-filter}
use Rattle.std.proofs.lemmas.List.Sorted.{ranks_by, ties_stay_sorted}
use Rattle.kms_world.specs.declared.secret.SecretRow.{SecretRow}
use Rattle.kms_page.specs.declared.query.Query.{Query}
use Rattle.kms_page.specs.Filter.{passes_at, filtered}

pub filtered_rises : (rows : List SecretRow) (shown : List ℕ) (query : Query) → IsStrictlyIncreasing shown → IsStrictlyIncreasing (filtered rows shown query)
unfolding filtered
filtered_rises rows shown query up = IsStrictlyIncreasing-filter (passes_at rows query) shown up

abbrev before : ℕ → ℕ → Bool
before x y = is_lt (nat_cmp x y)

not_before : (x y : ℕ) → x < y → before y x ≡ false
not_before x y h = rw (le-ltb y x (omega arith)) (either (y == x))
  where
    either : (b : Bool) → is_lt (cond b Equal Greater) ≡ false
    either true = refl
    either false = refl

sorted_from_rising : (xs : List ℕ) → IsStrictlyIncreasing xs → IsSortedBy before xs
sorted_from_rising xs up k d low high =
    not_before (get_or xs k d) (get_or xs (k + 1) d) (AllPairs-from_increasing xs up k (k + 1) d (omega arith) high)

turned : (o p : Ordering) → o ≡ ordering_reverse p → p ≡ Equal → is_lt o ≡ false
turned o p e f = ap is_lt (e ∙ ap ordering_reverse f)

either_way : (o p : Ordering) → is_lt o ≡ false → (o ≡ Equal → is_lt p ≡ false) → is_lt (ordering_then o p) ≡ false
either_way Less p h tie = h
either_way Equal p h tie = tie refl
either_way Greater p h tie = refl

tied : (lt : ℕ → ℕ → Bool) (x y : ℕ) → lt x y ≡ false → lt y x ≡ false → ties lt x y ≡ true
tied lt x y a b = rw (a, b) refl

-- a stable sort of a list that rises: what ties rises still
pub by_creation : (R : ℕ → ℕ → Ordering) → IsTotalOrder R → (xs ys : List ℕ) → IsStrictlyIncreasing xs → IsSorted R ys → IsStable R xs ys → IsSorted (then_cmp R nat_cmp) ys
by_creation R o xs ys up rises stable k d low high =
    let x = get_or ys k d in
    let y = get_or ys (k + 1) d in
    let lt = λ (p q : ℕ). is_lt (R p q) in
    let order : IsStrictWeakOrder lt = ranks_by o (λ (p : ℕ). p) in
    let by_number : IsStrictWeakOrder before = ranks_by nat_cmp_total (λ (p : ℕ). p) in
    either_way (R y x) (nat_cmp y x) (rises k d low high) (λ e.
    ties_stay_sorted before lt by_number order xs ys (sorted_from_rising xs up) stable k d high
    (tied lt x y (turned (R x y) (R y x) (o.antisymm x y) e) (ap is_lt e)))
