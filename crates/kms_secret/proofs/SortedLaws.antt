-- A list in order: it rises, it has the same elements, what ties stands as before, and there is one such list.
use Rattle.std.proofs.Common.{◌≡◌, ℕ, zero, suc, ◌<◌, Bool, true, false, cond, List, [], ◌∷◌, length, get_or, refl, sym, ap, subst, ◌∙◌, arith, add-one, inl, inr}
use native.Mathlib.Numerals.{unary_clauses}
use Rattle.std.specs.Prelude.{filter}
use Rattle.std.specs.Cmp.{IsTotalOrder, IsStrictWeakOrder}
use Rattle.std.specs.declared.cmp.Ordering.{Ordering}
use Rattle.std.specs.declared.cmp.Ordering.TheVariants.{Less, Equal, Greater}
use Rattle.std.specs.Ordering.{is_lt, is_gt, ordering_reverse}
use Rattle.std.specs.List.Sorted.{IsPermutation, IsSorted, IsSortedBy, IsStable, IsStableBy, ties}
use Rattle.std.proofs.lemmas.Bool.{cases_Bool, both_ways, and_parts, false_from_ne_true, not-true}
use Rattle.std.proofs.lemmas.List.Sorted.{IsPermutation-refl, IsPermutation-sym, IsPermutation-trans, IsPermutation-cons, IsPermutation-middle, ranks_by, sorted_far}
use Rattle.kms_secret.specs.Sorted.{put, sorted}

is_gt_turned : (o : Ordering) → is_gt (ordering_reverse o) ≡ is_lt o
is_gt_turned Less = refl
is_gt_turned Equal = refl
is_gt_turned Greater = refl

module _ {X : Type 0} (lt : X → X → Bool) where
  -- no element is below the first
  abbrev pub IsLow : X → List X → Type 0
  IsLow x [] = Unit {0}
  IsLow x (y ∷ ys) = (lt y x ≡ false) × IsLow x ys

  -- no element is below one before it
  abbrev pub Rises : List X → Type 0
  Rises [] = Unit {0}
  Rises (x ∷ xs) = IsLow x xs × Rises xs

  low_from : (x : X) (ys : List X) → ((j : ℕ) (d : X) → j < length ys → lt (get_or ys j d) x ≡ false) → IsLow x ys
  low_from x [] h = tt
  low_from x (y ∷ ys) h = (h 0 y (omega arith), low_from x ys (λ j d l. h (suc j) d (omega arith)))

  sorted_tail : (x : X) (xs : List X) → IsSortedBy lt (x ∷ xs) → IsSortedBy lt xs
  sorted_tail x xs s k d low high = rw add-one (simp unary_clauses at (s (suc k) d (omega arith) (omega arith)))

  pub rises_from_sorted : IsStrictWeakOrder lt → (xs : List X) → IsSortedBy lt xs → Rises xs
  rises_from_sorted o [] s = tt
  rises_from_sorted o (x ∷ xs) s = (
    low_from x xs (λ j d l. sorted_far lt o (x ∷ xs) s 0 (suc j) d (omega arith) (omega arith)),
    rises_from_sorted o xs (sorted_tail x xs s),
  )

  low_at : (x : X) (ys : List X) (d : X) → IsLow x ys → 0 < length ys → lt (get_or ys 0 d) x ≡ false
  low_at x [] d low l = absurd (omega arith)
  low_at x (y ∷ ys) d low l = low.0

  pub sorted_from_rises : (xs : List X) → Rises xs → IsSortedBy lt xs
  sorted_from_rises [] r k d low high = absurd (omega arith)
  sorted_from_rises (x ∷ xs) r zero d low high = low_at x xs d r.0 (omega arith)
  sorted_from_rises (x ∷ xs) r (suc k) d low high = rw add-one (rw add-one at (sorted_from_rises xs r.1 k d (omega arith) (omega arith)))

  low_of : (x y : X) → IsStrictWeakOrder lt → lt y x ≡ false → (zs : List X) → IsLow y zs → IsLow x zs
  low_of x y o h [] low = tt
  low_of x y o h (z ∷ zs) low = (o.chain z y x low.0 h, low_of x y o h zs low.1)

  tied : (x y : X) → lt x y ≡ false → lt y x ≡ false → ties lt x y ≡ true
  tied x y a b = rw (a, b) refl

  untied : (x y : X) → lt x y ≡ true → ties lt x y ≡ false
  untied x y a = rw a refl

  self : IsStrictWeakOrder lt → (x : X) → lt x x ≡ false
  self o x = false_from_ne_true (lt x x) (λ e. both_ways (lt x x) (o.one_way x x e) e)

  -- what is below the least element ties with none
  none_tied : IsStrictWeakOrder lt → (x y : X) → lt x y ≡ true → (zs : List X) → IsLow y zs → filter (ties lt x) zs ≡ []
  none_tied o x y below [] low = refl
  none_tied o x y below (z ∷ zs) low =
      let less : lt x z ≡ true = elim (cases_Bool (lt x z)) [
        | inl less ↦ less
        | inr over ↦ absurd (both_ways (lt x y) (o.chain x z y over low.0) below)
      ] in
      rw (untied x z less) (none_tied o x y below zs low.1)

  first_kept : (p : X → Bool) (x : X) (xs : List X) → p x ≡ true → filter p (x ∷ xs) ≡ x ∷ filter p xs
  first_kept p x xs h = rw h refl

  apart : (x : X) (xs : List X) → ◌≡◌ {A = List X} [] (x ∷ xs) → ⊥
  apart x xs e = cc

  least : IsStrictWeakOrder lt → (x y : X) (xs ys : List X) → Rises (y ∷ ys) → filter (ties lt x) (y ∷ ys) ≡ filter (ties lt x) (x ∷ xs) → lt x y ≡ false
  least o x y xs ys r e = elim (cases_Bool (lt x y)) [
    | inr over ↦ over
    | inl below ↦ absurd (apart x (filter (ties lt x) xs)
        (sym (none_tied o x y below (y ∷ ys) (self o y, r.0)) ∙ e ∙ first_kept (ties lt x) x xs (tied x x (self o x) (self o x))))
  ]

  tails : (p : X → Bool) (x : X) (xs ys : List X) (b : Bool) → p x ≡ b → filter p (x ∷ ys) ≡ filter p (x ∷ xs) → filter p ys ≡ filter p xs
  tails p x xs ys true h e =
      let both : x ∷ filter p ys ≡ x ∷ filter p xs = sym (first_kept p x ys h) ∙ e ∙ first_kept p x xs h in cc
  tails p x xs ys false h e = rw h at e

  -- one list alone rises and keeps the order of what ties
  pub one_list : IsStrictWeakOrder lt → (xs ys : List X) → Rises xs → Rises ys → IsStableBy lt xs ys → ys ≡ xs
  one_list o [] [] r s stable = refl
  one_list o [] (y ∷ ys) r s stable =
      absurd (apart y (filter (ties lt y) ys) (sym (stable y) ∙ first_kept (ties lt y) y ys (tied y y (self o y) (self o y))))
  one_list o (x ∷ xs) [] r s stable =
      absurd (apart x (filter (ties lt x) xs) (stable x ∙ first_kept (ties lt x) x xs (tied x x (self o x) (self o x))))
  one_list o (x ∷ xs) (y ∷ ys) r s stable =
      let up = least o x y xs ys s (stable x) in
      let down = least o y x ys xs r (sym (stable y)) in
      let heads : y ∷ filter (ties lt x) ys ≡ x ∷ filter (ties lt x) xs =
      sym (first_kept (ties lt x) y ys (tied x y up down)) ∙ stable x ∙ first_kept (ties lt x) x xs (tied x x (self o x) (self o x)) in
      let same : y ≡ x = cc in
      let rest : ys ≡ xs = one_list o xs ys r.1 s.1 (λ z.
      tails (ties lt z) x xs ys (ties lt z x) refl (subst (λ (w : X). filter (ties lt z) (w ∷ ys) ≡ filter (ties lt z) (x ∷ xs)) same (stable z))) in
      cc

module _ {X : Type 0} (R : X → X → Ordering) (o : IsTotalOrder R) where
  abbrev below : X → X → Bool
  below x y = is_lt (R x y)

  weak : IsStrictWeakOrder below
  weak = ranks_by o (λ x. x)

  turned : (x y : X) → is_gt (R x y) ≡ below y x
  turned x y = ap is_gt (o.antisymm x y) ∙ is_gt_turned (R y x)

  low_put : (a x : X) (ys : List X) → below x a ≡ false → IsLow below a ys → IsLow below a (put R x ys)
  low_put a x [] h low = (h, tt)
  low_put a x (y ∷ ys) h low = elim (cases_Bool (is_gt (R x y))) [
    | inl gt ↦ rw gt (low.0, low_put a x ys h low.1)
    | inr over ↦ rw over (h, (low.0, low.1))
  ]

  rises_put : (x : X) (ys : List X) → Rises below ys → Rises below (put R x ys)
  rises_put x [] r = (tt, tt)
  rises_put x (y ∷ ys) r = elim (cases_Bool (is_gt (R x y))) [
    | inl gt ↦ rw gt (low_put y x ys (weak.one_way y x (sym (turned x y) ∙ gt)) r.0, rises_put x ys r.1)
    | inr over ↦
        let up : below y x ≡ false = sym (turned x y) ∙ over in
        rw over ((up, low_of below x y weak up ys r.0), r)
  ]

  pub rises : (xs : List X) → Rises below (sorted R xs)
  rises [] = tt
  rises (x ∷ xs) = rises_put x (sorted R xs) (rises xs)

  pub IsSorted-sorted : (xs : List X) → IsSorted R (sorted R xs)
  IsSorted-sorted xs = sorted_from_rises below (sorted R xs) (rises xs)

  moved : (x : X) (ys : List X) → IsPermutation (x ∷ ys) (put R x ys)
  moved x [] = IsPermutation-refl (x ∷ [])
  moved x (y ∷ ys) = elim (cases_Bool (is_gt (R x y))) [
    | inl gt ↦ rw gt (IsPermutation-trans (x ∷ y ∷ ys) (y ∷ x ∷ ys) (y ∷ put R x ys)
        (IsPermutation-sym _ _ (IsPermutation-middle (y ∷ []) x ys)) (IsPermutation-cons y _ _ (moved x ys)))
    | inr over ↦ rw over (IsPermutation-refl (x ∷ y ∷ ys))
  ]

  pub IsPermutation-sorted : (xs : List X) → IsPermutation xs (sorted R xs)
  IsPermutation-sorted [] = IsPermutation-refl []
  IsPermutation-sorted (x ∷ xs) =
      IsPermutation-trans (x ∷ xs) (x ∷ sorted R xs) (put R x (sorted R xs))
      (IsPermutation-cons x _ _ (IsPermutation-sorted xs)) (moved x (sorted R xs))

  one_tied : (z x y : X) → below y x ≡ true → ties below z x ≡ true → ties below z y ≡ false
  one_tied z x y h t = false_from_ne_true (ties below z y) (λ s.
      let a = and_parts _ _ t in
      let b = and_parts _ _ s in
      both_ways (below y x) (weak.chain y z x (not-true _ b.1) (not-true _ a.0)) h)

  kept_put : (z x : X) (ys : List X) → filter (ties below z) (put R x ys) ≡ filter (ties below z) (x ∷ ys)
  kept_put z x [] = refl
  kept_put z x (y ∷ ys) = elim (cases_Bool (is_gt (R x y))) [
    | inr over ↦ rw over refl
    | inl gt ↦ elim (cases_Bool (ties below z x)) [
      | inl t ↦ let u = one_tied z x y (sym (turned x y) ∙ gt) t in
          let more = rw t at (kept_put z x ys) in
          rw (gt, u, t) more
      | inr t ↦ let more = rw t at (kept_put z x ys) in
          rw (gt, t) (ap (λ (l : List X). cond (ties below z y) (y ∷ l) l) more)
    ]
  ]

  pub IsStable-sorted : (xs : List X) → IsStable R xs (sorted R xs)
  IsStable-sorted [] z = refl
  IsStable-sorted (x ∷ xs) z =
      kept_put z x (sorted R xs) ∙ ap (λ (l : List X). cond (ties below z x) (x ∷ l) l) (IsStable-sorted xs z)

  -- what a stable sort leaves is that list
  pub sorted_is : (xs ys : List X) → IsSorted R ys → IsStable R xs ys → ys ≡ sorted R xs
  sorted_is xs ys up stable =
      one_list below weak (sorted R xs) ys (rises xs) (rises_from_sorted below weak ys up)
      (λ z. stable z ∙ sym (IsStable-sorted xs z))
