-- Pairs whose keys ascend, as they grow by one pair.
use Rattle.std.proofs.Common.{◌≡◌, ℕ, ◌-◌, ◌&&◌, Bool, true, false, List, [], ◌∷◌, ◌++◌, length, Some, refl, ◌∙◌, arith, suc, ◌<◌}
use Rattle.std.specs.List.{All, slice_get}
use Rattle.std.specs.Ordering.{is_lt}
use Rattle.std.specs.declared.cmp.Ordering.{Ordering}
use Rattle.std.specs.declared.cmp.Ordering.TheVariants.{Less, Equal, Greater}
use Rattle.std.proofs.lemmas.Bool.{and_parts, and_from}
use Rattle.std.proofs.lemmas.Cmp.{nat_list_cmp_total}
use Rattle.std.proofs.lemmas.List.Elements.{All-nil, All-cons}
use Rattle.kms_world.specs.Pairs.{is_below}
use Rattle.kms_secret.specs.Ascending.{ascend, is_next}

-- the last pair decides
pub next_by_last : (pairs : List (List ℕ × List ℕ)) (last pair : List ℕ × List ℕ) → slice_get pairs (length pairs - 1) ≡ Some last → is_next pairs pair ≡ is_below last.0 pair.0
next_by_last [] last pair at = cc
next_by_last (first ∷ []) last pair at = let same : first ≡ last = cc in rw same refl
next_by_last (first ∷ second ∷ pairs) last pair at =
    next_by_last (second ∷ pairs) last pair
    (later first (second ∷ pairs) (length (second ∷ pairs) - 1) (length (first ∷ second ∷ pairs) - 1) (omega arith) ∙ at)
  where
    later : (x : List ℕ × List ℕ) (xs : List (List ℕ × List ℕ)) (i j : ℕ) → j ≡ suc i → slice_get xs i ≡ slice_get (x ∷ xs) j
    later x xs i j e = rw e refl

pub below_trans : (a b c : List ℕ) → is_below a b ≡ true → is_below b c ≡ true → is_below a c ≡ true
below_trans a b c p q = rw (nat_list_cmp_total.trans a b c (less _ p) (less _ q)) refl
  where
    less : (o : Ordering) → is_lt o ≡ true → o ≡ Less
    less Less h = refl
    less Equal h = cc
    less Greater h = cc

-- and it comes after all of them where they ascend
pub all_below : (pairs : List (List ℕ × List ℕ)) (pair : List ℕ × List ℕ) → ascend pairs ≡ true → is_next pairs pair ≡ true → All (λ p. is_below p.0 pair.0 ≡ true) pairs
all_below [] pair up next = All-nil (λ (p : List ℕ × List ℕ). is_below p.0 pair.0 ≡ true)
all_below (last ∷ []) pair up next =
    All-cons (λ (p : List ℕ × List ℕ). is_below p.0 pair.0 ≡ true) last [] next
    (All-nil (λ (p : List ℕ × List ℕ). is_below p.0 pair.0 ≡ true))
all_below (first ∷ second ∷ pairs) pair up next =
    let parts : (is_below first.0 second.0 ≡ true) × (ascend (second ∷ pairs) ≡ true) = and_parts _ _ up in
    let rest : All (λ (p : List ℕ × List ℕ). is_below p.0 pair.0 ≡ true) (second ∷ pairs) = all_below (second ∷ pairs) pair parts.1 next in
    let within : 0 < length (second ∷ pairs) = omega arith in
    All-cons (λ (p : List ℕ × List ℕ). is_below p.0 pair.0 ≡ true) first (second ∷ pairs)
    (below_trans first.0 second.0 pair.0 parts.0 (rest 0 second within)) rest

-- a pair after the last of some that ascend
pub ascend-push : (pairs : List (List ℕ × List ℕ)) (pair : List ℕ × List ℕ) → ascend pairs ≡ true → is_next pairs pair ≡ true → ascend (pairs ++ pair ∷ []) ≡ true
ascend-push [] pair up next = refl
ascend-push (last ∷ []) pair up next = rw next refl
ascend-push (first ∷ second ∷ pairs) pair up next =
    let parts = and_parts _ _ up in
    and_from _ _ parts.0 (ascend-push (second ∷ pairs) pair parts.1 next)

-- where a pair doesn't come after the one before it, they don't ascend
pub not_ascending : (pairs : List (List ℕ × List ℕ)) (pair : List ℕ × List ℕ) (more : List (List ℕ × List ℕ)) → is_next pairs pair ≡ false → ascend (pairs ++ pair ∷ more) ≡ false
not_ascending [] pair more off = cc
not_ascending (last ∷ []) pair more off = rw off refl
not_ascending (first ∷ second ∷ pairs) pair more off =
    rw (not_ascending (second ∷ pairs) pair more off) (no_more (is_below first.0 second.0))
  where
    no_more : (b : Bool) → (b && false) ≡ false
    no_more true = refl
    no_more false = refl
