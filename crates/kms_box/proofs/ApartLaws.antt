-- Numbers that are looked at one after the other, and none of which stands twice.
use Rattle.std.proofs.Common.{◌≡◌, ℕ, ◌+◌, ◌<◌, ◌==◌, Bool, true, false, not, ◌||◌, ◌&&◌, cond, List, [], ◌∷◌, ◌++◌, length, map, take, drop, get_or, suc, refl, sym, ap, subst, ◌∙◌, arith, add-one, take-append-drop, drop-cons, inl, inr}
use Rattle.std.specs.BTreeMap.{is_at}
use Rattle.std.specs.BTreeSet.{BTreeSet, contains, Updates}
use Rattle.std.specs.List.{list_any}
use Rattle.std.specs.Ordering.{nat_cmp}
use Rattle.std.proofs.lemmas.Bool.{cases_Bool, and_parts, and_from}
use Rattle.std.proofs.lemmas.Bool.Decides.{nat_tests}
use Rattle.std.proofs.lemmas.List.{map-append}
use Rattle.std.proofs.lemmas.List.Folds.{list_any-append}
use Rattle.kms_box.specs.Container.{are_apart}

-- the number is among these
abbrev pub is_among : ℕ → List ℕ → Bool
is_among q numbers = list_any (λ n. q == n) numbers

among_middle : (x : ℕ) (front rest : List ℕ) → is_among x (front ++ x ∷ rest) ≡ true
among_middle x front rest = rw list_any-append (last (is_among x front) (x == x) (is_among x rest) (same x))
  where
    same : (x : ℕ) → (x == x) ≡ true
    same x = grind (arith, nat_tests)

    last : (a b c : Bool) → b ≡ true → (a || (b || c)) ≡ true
    last true b c h = refl
    last false b c h = rw h refl

-- a number that stands before stands twice
pub clash : (x : ℕ) (front rest : List ℕ) → is_among x front ≡ true → are_apart (front ++ x ∷ rest) ≡ false
clash x [] rest h = cc
clash x (y ∷ front) rest h = elim (cases_Bool (x == y)) [
  | inl same ↦
      let e : y ≡ x = grind (arith, nat_tests) in
      rw (subst (λ (z : ℕ). is_among z (front ++ x ∷ rest) ≡ true) (sym e) (among_middle x front rest)) refl
  | inr other ↦
      let before : is_among x front ≡ true = rw other at h in
      rw (clash x front rest before) (none (not (is_among y (front ++ x ∷ rest))))
]
  where
    none : (b : Bool) → (b && false) ≡ false
    none true = refl
    none false = refl

-- a number that doesn't stand before stands once
pub apart-push : (x : ℕ) (front : List ℕ) → is_among x front ≡ false → are_apart front ≡ true → are_apart (front ++ x ∷ []) ≡ true
apart-push x [] h apart = refl
apart-push x (y ∷ front) h apart =
    let parts : (not (is_among y front) ≡ true) × (are_apart front ≡ true) = and_parts _ _ apart in
    let off : ((x == y) ≡ false) × (is_among x front ≡ false) = or_parts (x == y) (is_among x front) h in
    let turned : (y == x) ≡ false = let o = off.0 in grind (arith, nat_tests) in
    and_from _ _ (rw (list_any-append (λ n. y == n) front (x ∷ []), turned) (still (is_among y front) parts.0)) (apart-push x front off.1 parts.1)
  where
    or_parts : (a b : Bool) → (a || b) ≡ false → (a ≡ false) × (b ≡ false)
    or_parts true b h = cc
    or_parts false b h = (refl, h)

    still : (b : Bool) → not b ≡ true → not (b || (false || false)) ≡ true
    still true h = h
    still false h = refl

at_is : (k q : ℕ) → is_at (nat_cmp k) q ≡ (q == k)
at_is k q = grind (arith, nat_tests)

-- the set has what it had, and the number
pub among_more : (old new : BTreeSet ℕ) (x : ℕ) (front : List ℕ) → ((q : ℕ) → contains nat_cmp old q ≡ is_among q front) → Updates nat_cmp old new x true → (q : ℕ) → contains nat_cmp new q ≡ is_among q (front ++ x ∷ [])
among_more old new x front had updates q =
    updates.0 q ∙ ap (λ (b : Bool). cond b true (contains nat_cmp old q)) (at_is x q)
    ∙ ap (cond (q == x) true) (had q)
    ∙ turned (q == x) (is_among q front)
    ∙ sym (list_any-append (λ n. q == n) front (x ∷ []))
  where
    turned : (a b : Bool) → cond a true b ≡ (b || (a || false))
    turned true true = refl
    turned true false = refl
    turned false true = refl
    turned false false = refl

-- the number at a place, with those before and after it
pub whole : {X : Type 0} (f : X → ℕ) (xs : List X) (i : ℕ) (x : X) → i < length xs → x ≡ get_or xs i x → map f xs ≡ map f (take i xs) ++ f x ∷ map f (drop (i + 1) xs)
whole {X = X} f xs i x h at =
    ap (map f) (sym (take-append-drop i xs)) ∙ map-append f (take i xs) (drop i xs)
    ∙ ap (λ (t : List X). map f (take i xs) ++ map f t) (drop-cons xs i x h)
    ∙ there (get_or xs i x) at
  where
    there : (y : X) → x ≡ y → (map f (take i xs) ++ f y ∷ map f (drop (suc i) xs)) ≡ (map f (take i xs) ++ f x ∷ map f (drop (i + 1) xs))
    there y e = rw (← e, add-one) refl
