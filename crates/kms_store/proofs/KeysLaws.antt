-- A search by halves finds the key that a search from the front finds.
use Rattle.std.proofs.Common.{◌≡◌, ℕ, suc, ◌<◌, ◌≤◌, ◌||◌, Bool, true, false, ltb, List, [], ◌∷◌, length, get_or, Some, None, refl, sym, ap, subst, ◌∙◌, arith, inl, inr}
use Prim.Native.Nat.{zero}
use Rattle.std.specs.Prelude.{not, nat_lt}
use Rattle.std.specs.List.{AllByRecursion, insert, list_all}
use Rattle.std.specs.List.Sorted.{IsPartitionedBy, IsPartitionPoint}
use Rattle.std.specs.Str.{bytes_eq}
use Rattle.std.proofs.lemmas.Bool.{cases_Bool, false≢true, false_from_ne_true, lt-ltb, ltb-true, ltb-false, or_right}
use Rattle.std.proofs.lemmas.Slice.Eq.{bytes_eq-Decides}
use Rattle.kms_world.specs.Pairs.{is_below}
use Rattle.kms_record.specs.declared.key.WrappedKey.{WrappedKey}
use Rattle.kms_kept.specs.Kept.{insert_key, is_key, is_key_below, key_of}
use Rattle.kms_kept.specs.KeyNumbers.{KeysAscend, IsKeyBelow}
use Rattle.kms_kept.proofs.KeyOrderLaws.{below_itself, below_of, to_below, key_below_trans, key_below_other}
use Rattle.kms_kept.proofs.KeyLookUps.{is_key_parts}
use Rattle.kms_store.specs.Keys.{named_key}
use Rattle.kms_store.proofs.EditLaws.{insert_here, insert_last}
use Rattle.kms_store.proofs.TableLaws.{find_by_place, find_none}

above : (low : WrappedKey) (xs : List WrappedKey) (j : ℕ) (d : WrappedKey) → AllByRecursion (IsKeyBelow low) xs → j < length xs → IsKeyBelow low (get_or xs j d)
above low [] j d each lt = absurd (omega (arith, lt))
above low (x ∷ xs) zero d each lt = each.0
above low (x ∷ xs) (suc j) d each lt = above low xs j d each.1 (omega (arith, lt))

-- an earlier key comes before a later one
ascend_at : (xs : List WrappedKey) (i j : ℕ) (d : WrappedKey) → KeysAscend xs → i < j → j < length xs → IsKeyBelow (get_or xs i d) (get_or xs j d)
ascend_at [] i j d r before lt = absurd (omega (arith, lt))
ascend_at (x ∷ xs) i zero d r before lt = absurd (omega (arith, before))
ascend_at (x ∷ xs) zero (suc j) d r before lt = above x xs j d r.1 (omega (arith, lt))
ascend_at (x ∷ xs) (suc i) (suc j) d r before lt = ascend_at xs i j d r.2 (omega (arith, before)) (omega (arith, lt))

module _ (project : List ℕ) (number : ℕ) where
  abbrev before : WrappedKey → Bool
  before key = is_key_below key (named_key project number)

  pub parted : (xs : List WrappedKey) → KeysAscend xs → IsPartitionedBy (λ key. is_key_below key (named_key project number)) xs
  parted xs r i j d le lt is = elim (cases_Bool (ltb i j)) [
    | inl t ↦ key_below_trans (get_or xs i d) (get_or xs j d) (named_key project number) (ascend_at xs i j d r (ltb-true i j t) lt) is
    | inr f ↦ let same : i ≡ j = omega (arith, le, ltb-false i j f) in subst (λ (k : ℕ). before (get_or xs k d) ≡ true) (sym same) is
  ]

  abbrev Parts : List WrappedKey → ℕ → Type 0
  Parts xs i = IsPartitionPoint (λ key. is_key_below key (named_key project number) ≡ true) (λ key. is_key_below key (named_key project number) ≡ false) xs i

  -- a key that comes before another isn't that one
  not_it : (key : WrappedKey) → before key ≡ true → is_key project number key ≡ false
  not_it key is = false_from_ne_true (is_key project number key) (λ it.
      let parts = is_key_parts project number key it in
      elim (below_of key (named_key project number) is) [
        | inl less ↦ below_itself project (subst (λ (p : List ℕ). is_below p project ≡ true) (sym parts.0) less)
        | inr less ↦ absurd (omega (arith, parts.1, less.1))
      ])

  pub key_found : (xs : List WrappedKey) (i : ℕ) (d : WrappedKey) → Parts xs i → i < length xs → is_key project number (get_or xs i d) ≡ true → key_of project number xs ≡ Some (get_or xs i d)
  key_found xs i d parts lt it = find_by_place (is_key project number) xs i d lt it (λ k less. not_it (get_or xs k d) (parts.0 k d (omega arith) less))

  -- none after the place, where it isn't there
  not_after : (xs : List WrappedKey) (i k : ℕ) (d : WrappedKey) → KeysAscend xs → Parts xs i → i < k → k < length xs → is_key project number (get_or xs k d) ≡ false
  not_after xs i k d r parts less lt = false_from_ne_true (is_key project number (get_or xs k d)) (λ it.
      let same = is_key_parts project number (get_or xs k d) it in
      let below : is_key_below (get_or xs i d) (get_or xs k d) ≡ true = ascend_at xs i k d r less lt in
      let named : before (get_or xs i d) ≡ true = rw (same.0, same.1) below in
      false≢true (sym (parts.1 i d (omega arith) (omega (arith, less, lt))) ∙ named))

  pub key_missing : (xs : List WrappedKey) (i : ℕ) → KeysAscend xs → Parts xs i → (i < length xs → (d : WrappedKey) → is_key project number (get_or xs i d) ≡ false) → key_of project number xs ≡ None
  key_missing xs i r parts apart = find_none (is_key project number) xs fails
    where
      fails : (k : ℕ) (d : WrappedKey) → k < length xs → is_key project number (get_or xs k d) ≡ false
      fails k d lt = elim (cases_Bool (ltb k i)) [
        | inl t ↦ not_it (get_or xs k d) (parts.0 k d (omega arith) (ltb-true k i t))
        | inr f ↦ elim (cases_Bool (ltb i k)) [
          | inl later ↦ not_after xs i k d r parts (ltb-true i k later) lt
          | inr other ↦ let same : i ≡ k = omega (arith, ltb-false k i f, ltb-false i k other) in subst (λ (j : ℕ). is_key project number (get_or xs j d) ≡ false) same (apart (omega (arith, same, lt)) d)
        ]
      ]

-- ---- where a key goes

module _ (key : WrappedKey) where
  pub parted_after : (xs : List WrappedKey) → KeysAscend xs → IsPartitionedBy (λ other. not (is_key_below key other)) xs
  parted_after xs r i j d le lt is = elim (cases_Bool (ltb i j)) [
    | inl t ↦ elim (cases_Bool (is_key_below key (get_or xs i d))) [
      | inl below ↦ let later : is_key_below key (get_or xs j d) ≡ true = key_below_trans key (get_or xs i d) (get_or xs j d) below (ascend_at xs i j d r (ltb-true i j t) lt) in absurd (false≢true (rw later at is))
      | inr other ↦ rw other refl
    ]
    | inr f ↦ let same : i ≡ j = omega (arith, le, ltb-false i j f) in subst (λ (k : ℕ). not (is_key_below key (get_or xs k d)) ≡ true) (sym same) is
  ]

  is_not : (b : Bool) → not b ≡ true → b ≡ false
  is_not true e = absurd (false≢true e)
  is_not false e = refl

  is_so : (b : Bool) → not b ≡ false → b ≡ true
  is_so true e = refl
  is_so false e = absurd (false≢true (sym e))

  pub place_inserts : (xs : List WrappedKey) (i : ℕ) → IsPartitionPoint (λ other. not (is_key_below key other) ≡ true) (λ other. not (is_key_below key other) ≡ false) xs i → i ≤ length xs → insert xs i key ≡ insert_key key xs
  place_inserts xs i parts le = elim (cases_Bool (ltb i (length xs))) [
    | inl t ↦
        let lt = ltb-true i (length xs) t in
        insert_here key key xs i lt (is_so (is_key_below key (get_or xs i key)) (parts.1 i key (omega arith) lt)) (λ k less. is_not (is_key_below key (get_or xs k key)) (parts.0 k key (omega arith) less))
    | inr f ↦
        let end : i ≡ length xs = omega (arith, le, ltb-false i (length xs) f) in
        ap (λ (k : ℕ). insert xs k key) end ∙ insert_last key xs (find_none (is_key_below key) xs (λ k d lt. is_not (is_key_below key (get_or xs k d)) (parts.0 k d (omega arith) (omega (arith, lt, end)))))
  ]

-- ---- whether a key is its project's latest

module _ (new : WrappedKey) where
  abbrev earlier : WrappedKey → Bool
  earlier other = not (bytes_eq new.project other.project) || nat_lt other.number new.number

  all_pass : (test : WrappedKey → Bool) (xs : List WrappedKey) → ((k : ℕ) (d : WrappedKey) → k < length xs → test (get_or xs k d) ≡ true) → list_all test xs ≡ true
  all_pass test [] each = refl
  all_pass test (x ∷ xs) each = rw (each 0 x (omega arith)) (all_pass test xs (λ k d lt. each (suc k) d (omega (arith, lt))))

  one_fails : (test : WrappedKey → Bool) (xs : List WrappedKey) (i : ℕ) (d : WrappedKey) → i < length xs → test (get_or xs i d) ≡ false → list_all test xs ≡ false
  one_fails test [] i d lt fails = absurd (omega (arith, lt))
  one_fails test (x ∷ xs) zero d lt fails = rw fails refl
  one_fails test (x ∷ xs) (suc i) d lt fails = elim (cases_Bool (test x)) [
    | inl t ↦ rw t (one_fails test xs i d (omega (arith, lt)) fails)
    | inr f ↦ rw f refl
  ]

  -- of another project
  other_project : (other : WrappedKey) → (new.project ≡ other.project → ⊥) → earlier other ≡ true
  other_project other apart =
      let no : bytes_eq new.project other.project ≡ false = false_from_ne_true (bytes_eq new.project other.project) (λ same. apart ((bytes_eq-Decides new.project other.project).0 same)) in
      rw no refl

  below_earlier : (other : WrappedKey) → is_key_below other (named_key new.project new.number) ≡ true → earlier other ≡ true
  below_earlier other is = elim (below_of other (named_key new.project new.number) is) [
    | inl less ↦ other_project other (λ same. below_itself new.project (subst (λ (p : List ℕ). is_below p new.project ≡ true) (sym same) less))
    | inr less ↦ or_right (not (bytes_eq new.project other.project)) (nat_lt other.number new.number) (lt-ltb other.number new.number less.1)
  ]

  irreflexive_key : (a : WrappedKey) → IsKeyBelow a a → ⊥
  irreflexive_key a is = elim (below_of a a is) [
    | inl less ↦ below_itself a.project less
    | inr less ↦ absurd (omega (arith, less.1))
  ]

  -- after a key of another project that isn't before the new one
  after_apart : (xs : List WrappedKey) (i k : ℕ) (d : WrappedKey) → KeysAscend xs → is_key_below (get_or xs i d) (named_key new.project new.number) ≡ false → (new.project ≡ (get_or xs i d).project → ⊥)
      → i < k → k < length xs → new.project ≡ (get_or xs k d).project → ⊥
  after_apart xs i k d r not_before apart less lt same =
      let at = get_or xs i d in
      let later = get_or xs k d in
      let over : IsKeyBelow (named_key new.project new.number) at = key_below_other at (named_key new.project new.number) not_before (λ p n. apart (sym p)) in
      let first : IsKeyBelow (named_key new.project later.number) at = elim (below_of (named_key new.project new.number) at over) [
        | inl project ↦ to_below (named_key new.project later.number) at (inl project)
        | inr number ↦ absurd (apart number.0)
      ] in
      let second : IsKeyBelow at (named_key new.project later.number) = subst (λ (p : List ℕ). IsKeyBelow at (named_key p later.number)) (sym same) (ascend_at xs i k d r less lt) in
      irreflexive_key (named_key new.project later.number) (key_below_trans (named_key new.project later.number) at (named_key new.project later.number) first second)

  pub latest_all : (xs : List WrappedKey) (i : ℕ) → KeysAscend xs → Parts new.project new.number xs i → (i < length xs → (d : WrappedKey) → new.project ≡ (get_or xs i d).project → ⊥) → list_all earlier xs ≡ true
  latest_all xs i r parts apart = all_pass earlier xs each
    where
      each : (k : ℕ) (d : WrappedKey) → k < length xs → earlier (get_or xs k d) ≡ true
      each k d lt = elim (cases_Bool (ltb k i)) [
        | inl t ↦ below_earlier (get_or xs k d) (parts.0 k d (omega arith) (ltb-true k i t))
        | inr f ↦ elim (cases_Bool (ltb i k)) [
          | inl later ↦
              let less = ltb-true i k later in
              let within : i < length xs = omega (arith, less, lt) in
              other_project (get_or xs k d) (after_apart xs i k d r (parts.1 i d (omega arith) within) (apart within d) less lt)
          | inr other ↦
              let same : i ≡ k = omega (arith, ltb-false k i f, ltb-false i k other) in
              subst (λ (j : ℕ). earlier (get_or xs j d) ≡ true) same (other_project (get_or xs i d) (apart (omega (arith, same, lt)) d))
        ]
      ]

  pub latest_none : (xs : List WrappedKey) (i : ℕ) (d : WrappedKey) → Parts new.project new.number xs i → i < length xs → new.project ≡ (get_or xs i d).project → list_all earlier xs ≡ false
  latest_none xs i d parts lt same = one_fails earlier xs i d lt fails
    where
      at : WrappedKey
      at = get_or xs i d

      fails : earlier (get_or xs i d) ≡ false
      fails = elim (cases_Bool (nat_lt (get_or xs i d).number new.number)) [
        | inl less ↦
            let below : is_key_below (get_or xs i d) (named_key new.project new.number) ≡ true = to_below (get_or xs i d) (named_key new.project new.number) (inr (sym same, ltb-true (get_or xs i d).number new.number less)) in
            absurd (false≢true (sym (parts.1 i d (omega arith) lt) ∙ below))
        | inr other ↦ let eq : bytes_eq new.project (get_or xs i d).project ≡ true = (bytes_eq-Decides new.project (get_or xs i d).project).1 same in rw (eq, other) refl
      ]
