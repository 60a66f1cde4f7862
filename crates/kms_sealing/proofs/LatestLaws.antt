-- A search by halves finds a project's key of the greatest number.
use Rattle.std.proofs.Common.{◌≡◌, ℕ, suc, ◌+◌, ◌-◌, ◌<◌, ◌≤◌, Bool, true, false, ltb, List, [], ◌∷◌, length, get_or, refl, sym, ap, subst, ◌∙◌, arith, inl, inr}
use Prim.Native.Nat.{zero}
use Rattle.std.specs.Prelude.{not}
use Rattle.std.specs.List.Sorted.{IsPartitionedBy, IsPartitionPoint}
use Rattle.std.specs.Str.{bytes_eq}
use Rattle.std.proofs.lemmas.Bool.{cases_Bool, false≢true, false_from_ne_true, ltb-true, ltb-false, and_from, eq-eqb}
use Rattle.std.proofs.lemmas.Slice.Eq.{bytes_eq-Decides}
use Rattle.kms_world.specs.Pairs.{is_below}
use Rattle.kms_record.specs.declared.key.WrappedKey.{WrappedKey}
use Rattle.kms_kept.specs.Kept.{is_key}
use Rattle.kms_kept.specs.KeyNumbers.{KeysAscend, IsKeyBelow}
use Rattle.kms_kept.proofs.KeyOrderLaws.{below_itself, below_of, to_below, key_below_trans}
use Rattle.kms_kept.proofs.KeyLookUps.{is_key_parts}
use Rattle.kms_store.specs.Keys.{named_key}
use Rattle.kms_sealing.specs.Places.{has_key, IsLatest}
use Rattle.kms_sealing.proofs.PlaceLaws.{all_at, all_places, any_nowhere, found_at}

is_not : (b : Bool) → not b ≡ true → b ≡ false
is_not true e = absurd (false≢true e)
is_not false e = refl

is_so : (b : Bool) → not b ≡ false → b ≡ true
is_so true e = refl
is_so false e = absurd (false≢true (sym e))

-- ---- an earlier key comes before a later one

ascend_at : (xs : List WrappedKey) (i j : ℕ) (d : WrappedKey) → KeysAscend xs → i < j → j < length xs → IsKeyBelow (get_or xs i d) (get_or xs j d)
ascend_at [] i j d r before lt = absurd (omega (arith, lt))
ascend_at (x ∷ xs) i zero d r before lt = absurd (omega (arith, before))
ascend_at (x ∷ xs) zero (suc j) d r before lt = all_at (IsKeyBelow x) xs j d r.1 (omega (arith, lt))
ascend_at (x ∷ xs) (suc i) (suc j) d r before lt = ascend_at xs i j d r.2 (omega (arith, before)) (omega (arith, lt))

module _ (project : List ℕ) where
  -- what comes after a key of a later project is of a later project
  goes_on : (a b : WrappedKey) → is_below project a.project ≡ true → IsKeyBelow a b → is_below project b.project ≡ true
  goes_on a b first second =
      let named = named_key project b.number in
      elim (below_of named b (key_below_trans named a b (to_below named a (inl first)) second)) [
        | inl less ↦ less
        | inr number ↦ absurd (omega (arith, number.1))
      ]

  pub end_parted : (xs : List WrappedKey) → KeysAscend xs → IsPartitionedBy (λ row. not (is_below project row.project)) xs
  end_parted xs r i j d le lt is = elim (cases_Bool (ltb i j)) [
    | inl t ↦ elim (cases_Bool (is_below project (get_or xs i d).project)) [
      | inl below ↦ let later = goes_on (get_or xs i d) (get_or xs j d) below (ascend_at xs i j d r (ltb-true i j t) lt) in absurd (false≢true (rw later at is))
      | inr other ↦ rw other refl
    ]
    | inr f ↦ let same : i ≡ j = omega (arith, le, ltb-false i j f) in subst (λ (k : ℕ). not (is_below project (get_or xs k d).project) ≡ true) (sym same) is
  ]

  abbrev pub Ends : List WrappedKey → ℕ → Type 0
  Ends xs i = IsPartitionPoint (λ (row : WrappedKey). not (is_below project row.project) ≡ true) (λ (row : WrappedKey). not (is_below project row.project) ≡ false) xs i

  module _ (xs : List WrappedKey) (end : ℕ) (ascend : KeysAscend xs) (ends : Ends xs end) where
    -- a key from the end on is of another project
    beyond : (k : ℕ) (d : WrappedKey) → end ≤ k → k < length xs → project ≡ (get_or xs k d).project → ⊥
    beyond k d le lt same =
        below_itself project (subst (λ (p : List ℕ). is_below project p ≡ true) (sym same) (is_so (is_below project (get_or xs k d).project) (ends.1 k d le lt)))

    module _ (at : ℕ) (d : WrappedKey) (last : at + 1 ≡ end) (within : at < length xs) (same : project ≡ (get_or xs at d).project) where
      -- an earlier key of the project has a smaller number
      earlier : (k : ℕ) → k < at → project ≡ (get_or xs k d).project → (get_or xs k d).number < (get_or xs at d).number
      earlier k less mine = elim (below_of (get_or xs k d) (get_or xs at d) (ascend_at xs k at d ascend less within)) [
        | inl project_less ↦ absurd (below_itself project (subst (λ (p : List ℕ). is_below project p ≡ true) (sym same) (subst (λ (p : List ℕ). is_below p (get_or xs at d).project ≡ true) (sym mine) project_less)))
        | inr number ↦ number.1
      ]

      not_earlier : (k : ℕ) → k < at → is_key project (get_or xs at d).number (get_or xs k d) ≡ false
      not_earlier k less = false_from_ne_true (is_key project (get_or xs at d).number (get_or xs k d)) (λ it.
          let parts = is_key_parts project (get_or xs at d).number (get_or xs k d) it in
          absurd (omega (arith, earlier k less parts.0, parts.1)))

      -- the element at a place, whatever stands for one past the end
      at_most : (k : ℕ) (e : WrappedKey) → k < length xs → get_or xs k e ≡ get_or xs k d → project ≡ (get_or xs k e).project → (get_or xs k e).number ≤ (get_or xs at d).number
      at_most k e lt one mine =
          let here : project ≡ (get_or xs k d).project = subst (λ (row : WrappedKey). project ≡ row.project) one mine in
          subst (λ (row : WrappedKey). row.number ≤ (get_or xs at d).number) (sym one) (elim (cases_Bool (ltb k at)) [
            | inl t ↦ let less = earlier k (ltb-true k at t) here in omega (arith, less)
            | inr f ↦ elim (cases_Bool (ltb at k)) [
              | inl later ↦ let past = ltb-true at k later in absurd (beyond k d (omega (arith, past, last)) lt here)
              | inr other ↦
                  let is : at ≡ k = omega (arith, ltb-false k at f, ltb-false at k other) in
                  let equal : (get_or xs at d).number ≡ (get_or xs k d).number = ap (λ (n : ℕ). (get_or xs n d).number) is in
                  omega (arith, equal)
            ]
          ])

      pub is_latest : IsLatest project xs (get_or xs at d)
      is_latest = record {
        there =
            found_at (is_key project (get_or xs at d).number) xs at d within
            (and_from _ _ ((bytes_eq-Decides project (get_or xs at d).project).1 same) (eq-eqb (get_or xs at d).number (get_or xs at d).number refl)) not_earlier;
        greatest = all_places (λ (row : WrappedKey). project ≡ row.project → row.number ≤ (get_or xs at d).number) xs (λ k e lt. at_most k e lt (same_place xs k e d lt));
      }
        where
          same_place : (ys : List WrappedKey) (k : ℕ) (e f : WrappedKey) → k < length ys → get_or ys k e ≡ get_or ys k f
          same_place [] k e f lt = absurd (omega (arith, lt))
          same_place (y ∷ ys) zero e f lt = refl
          same_place (y ∷ ys) (suc k) e f lt = same_place ys k e f (omega (arith, lt))

    -- before the last key of an earlier or the same project there is none of the project, where that isn't
    before_last : (k at : ℕ) (d : WrappedKey) → at + 1 ≡ end → at < length xs → (project ≡ (get_or xs at d).project → ⊥) → k < at → project ≡ (get_or xs k d).project → ⊥
    before_last k at d last within apart less same = elim (below_of (get_or xs k d) (get_or xs at d) (ascend_at xs k at d ascend less within)) [
      | inl project_less ↦
          let below : is_below project (get_or xs at d).project ≡ true = subst (λ (p : List ℕ). is_below p (get_or xs at d).project ≡ true) (sym same) project_less in
          let not_below : is_below project (get_or xs at d).project ≡ false = is_not (is_below project (get_or xs at d).project) (ends.0 at d (omega arith) (omega (arith, last))) in
          false≢true (sym not_below ∙ below)
      | inr number ↦ apart (same ∙ number.0)
    ]

    -- the last key before the end is of another project: the project has none
    pub no_key : end ≤ length xs → ((at : ℕ) (d : WrappedKey) → at + 1 ≡ end → project ≡ (get_or xs at d).project → ⊥) → has_key project xs ≡ false
    no_key bound apart = any_nowhere (λ (row : WrappedKey). bytes_eq project row.project) xs (λ k d lt.
        false_from_ne_true (bytes_eq project (get_or xs k d).project) (λ is. other k d lt ((bytes_eq-Decides project (get_or xs k d).project).0 is)))
      where
        other : (k : ℕ) (d : WrappedKey) → k < length xs → project ≡ (get_or xs k d).project → ⊥
        other k d lt same = elim (cases_Bool (ltb k end)) [
          | inr f ↦ beyond k d (ltb-false k end f) lt same
          | inl t ↦ elim (cases_Bool (ltb (k + 1) end)) [
            | inr f ↦ apart k d (omega (arith, ltb-true k end t, ltb-false (k + 1) end f)) same
            | inl more ↦
                let less = ltb-true (k + 1) end more in
                before_last k (end - 1) d (omega (arith, less)) (omega (arith, less, bound)) (apart (end - 1) d (omega (arith, less))) (omega (arith, less)) same
          ]
        ]
