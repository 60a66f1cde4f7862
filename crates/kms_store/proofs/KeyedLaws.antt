-- Where the rows of keys stand, when rows come and go.
use Rattle.std.proofs.Common.{◌≡◌, ℕ, suc, ◌+◌, ◌-◌, ◌<◌, ◌≤◌, Bool, true, false, cond, ltb, List, [], ◌∷◌, ◌++◌, map, length, get_or, set, Some, None, refl, sym, ap, subst, ◌∙◌, arith, inl, inr}
use Prim.Native.Nat.{zero}
use Rattle.std.specs.Global.{Vec}
use Rattle.std.specs.Vec.{with_item}
use Rattle.std.specs.List.{AllByRecursion, remove, list_any}
use Rattle.std.specs.Prelude.{find, nat_lt}
use Rattle.std.proofs.lemmas.Bool.{cases_Bool, false≢true, false_from_ne_true, ltb-true, ltb-false, lt-ltb}
use Rattle.std.proofs.lemmas.List.Sums.{sum_by-cons}
use Rattle.kms_world.specs.Effect.{put_row, drop_rows}
use Rattle.kms_store.specs.IndexKey.{IsOrder}
use Rattle.kms_store.specs.Keyed.{next, nth, lowered, lowered_entry, IsPlaced, StandApart}
use Rattle.kms_store.specs.Tally.{number_at, number_in, Ascend}
use Rattle.kms_store.specs.declared.tally.Entry.{Entry}
use Rattle.kms_store.proofs.TableLaws.{put_last, dropped_nowhere}

next_none : (n : ℕ) → next n ≡ 0 → n ≡ 0
next_none zero is = refl
next_none (suc n) is = absurd (omega (arith, is))

not_first : (n : ℕ) → next n ≡ 1 → ⊥
not_first zero is = omega (arith, is)
not_first (suc n) is = omega (arith, is)

next_later : (n i : ℕ) → next n ≡ suc (suc i) → n ≡ suc i
next_later zero i is = absurd (omega (arith, is))
next_later (suc n) i is = omega (arith, is)

next_some : (n : ℕ) → 0 < n → next n ≡ suc n
next_some zero lt = absurd (omega (arith, lt))
next_some (suc n) lt = refl

-- ---- numbers after one that goes

lowered_below : (gone n : ℕ) → n ≤ gone → lowered gone n ≡ n
lowered_below gone n le = elim (cases_Bool (ltb gone n)) [ inl t ↦ absurd (omega (arith, le, ltb-true gone n t)) | inr f ↦ rw f refl ]

lowered_above : (gone n : ℕ) → gone < n → lowered gone n ≡ n - 1
lowered_above gone n lt = rw (lt-ltb gone n lt) refl

after_first : (n : ℕ) → n ≡ lowered 1 (next n)
after_first zero = sym (lowered_below 1 0 (omega arith))
after_first (suc n) = omega (arith, lowered_above 1 (suc (suc n)) (omega arith))

after_later : (gone n : ℕ) → 0 < gone → next (lowered gone n) ≡ lowered (suc gone) (next n)
after_later gone zero lt = ap next (lowered_below gone 0 (omega arith)) ∙ sym (lowered_below (suc gone) 0 (omega arith))
after_later gone (suc n) lt = elim (cases_Bool (ltb gone (suc n))) [
  | inl t ↦
      let less = ltb-true gone (suc n) t in
      let low : lowered gone (suc n) ≡ n = lowered_above gone (suc n) less ∙ omega arith in
      let high : lowered (suc gone) (suc (suc n)) ≡ suc n = lowered_above (suc gone) (suc (suc n)) (omega (arith, less)) ∙ omega arith in
      ap next low ∙ next_some n (omega (arith, less, lt)) ∙ sym high
  | inr f ↦
      let le = ltb-false gone (suc n) f in
      ap next (lowered_below gone (suc n) le) ∙ sym (lowered_below (suc gone) (suc (suc n)) (omega (arith, le)))
]

-- ---- the first row that passes

module _ {X : Type 0} (p : X → Bool) where
  none_parts : (x : X) (xs : List X) → nth p (x ∷ xs) ≡ 0 → (p x ≡ false) × (nth p xs ≡ 0)
  none_parts x xs is = elim (cases_Bool (p x)) [
    | inl t ↦ let one : 1 ≡ 0 = rw t at is in absurd (omega (arith, one))
    | inr f ↦ (f, next_none (nth p xs) (rw f at is))
  ]

  first_part : (x : X) (xs : List X) → nth p (x ∷ xs) ≡ 1 → p x ≡ true
  first_part x xs is = elim (cases_Bool (p x)) [
    | inl t ↦ t
    | inr f ↦ absurd (not_first (nth p xs) (rw f at is))
  ]

  later_parts : (x : X) (xs : List X) (i : ℕ) → nth p (x ∷ xs) ≡ suc (suc i) → (p x ≡ false) × (nth p xs ≡ suc i)
  later_parts x xs i is = elim (cases_Bool (p x)) [
    | inl t ↦ let one : 1 ≡ suc (suc i) = rw t at is in absurd (omega (arith, one))
    | inr f ↦ (f, next_later (nth p xs) i (rw f at is))
  ]

  pub found_none : (xs : List X) → nth p xs ≡ 0 → find p xs ≡ None
  found_none [] is = refl
  found_none (x ∷ xs) is = let parts = none_parts x xs is in rw parts.0 (found_none xs parts.1)

  pub found_nth : (xs : List X) (i : ℕ) (d : X) → nth p xs ≡ suc i → find p xs ≡ Some (get_or xs i d)
  found_nth [] i d is = absurd (omega (arith, is))
  found_nth (x ∷ xs) zero d is = rw (first_part x xs is) refl
  found_nth (x ∷ xs) (suc i) d is = let parts = later_parts x xs i is in rw parts.0 (found_nth xs i d parts.1)

  pub within : (xs : List X) (i : ℕ) → nth p xs ≡ suc i → i < length xs
  within [] i is = absurd (omega (arith, is))
  within (x ∷ xs) zero is = omega arith
  within (x ∷ xs) (suc i) is = omega (arith, within xs i (later_parts x xs i is).1)

  pub passes : (xs : List X) (i : ℕ) (d : X) → nth p xs ≡ suc i → p (get_or xs i d) ≡ true
  passes [] i d is = absurd (omega (arith, is))
  passes (x ∷ xs) zero d is = first_part x xs is
  passes (x ∷ xs) (suc i) d is = passes xs i d (later_parts x xs i is).1

  some_there : (n : ℕ) → nat_lt 0 (next n) ≡ nat_lt 0 n
  some_there zero = refl
  some_there (suc n) = lt-ltb 0 (suc (suc n)) (omega arith) ∙ sym (lt-ltb 0 (suc n) (omega arith))

  pub any_is : (xs : List X) → nat_lt 0 (nth p xs) ≡ list_any p xs
  any_is [] = refl
  any_is (x ∷ xs) = elim (cases_Bool (p x)) [
    | inl t ↦ rw t refl
    | inr f ↦ rw f (some_there (nth p xs) ∙ any_is xs)
  ]

  pub put_nth : (row : X) (xs : List X) (i : ℕ) → nth p xs ≡ suc i → put_row p row xs ≡ set xs i row
  put_nth row [] i is = absurd (omega (arith, is))
  put_nth row (x ∷ xs) zero is = rw (first_part x xs is) refl
  put_nth row (x ∷ xs) (suc i) is = let parts = later_parts x xs i is in rw parts.0 (ap (λ (l : List X). x ∷ l) (put_nth row xs i parts.1))

  pub put_new : (row : X) (xs : List X) → nth p xs ≡ 0 → put_row p row xs ≡ xs ++ row ∷ []
  put_new row xs is = put_last p row xs (found_none xs is)

  pub dropped_none : (xs : List X) → nth p xs ≡ 0 → drop_rows p xs ≡ xs
  dropped_none xs is = dropped_nowhere p xs (found_none xs is)

  pub dropped_nth : (xs : List X) (i : ℕ) → nth p xs ≡ suc i → nth p (remove xs i) ≡ 0 → drop_rows p xs ≡ remove xs i
  dropped_nth [] i is gone = absurd (omega (arith, is))
  dropped_nth (x ∷ xs) zero is gone = rw (first_part x xs is) (dropped_none xs gone)
  dropped_nth (x ∷ xs) (suc i) is gone =
      let parts = later_parts x xs i is in
      rw parts.0 (ap (λ (l : List X). x ∷ l) (dropped_nth xs i parts.1 (none_parts x (remove xs i) gone).1))

  pub nth_push : (xs : List X) (x : X) → (p x ≡ true → nth p xs ≡ 0) → nth p (xs ++ x ∷ []) ≡ nth p xs + cond (p x) (length xs + 1) 0
  nth_push [] x absent = elim (cases_Bool (p x)) [ inl t ↦ rw t refl | inr f ↦ rw f refl ]
  nth_push (y ∷ ys) x absent = elim (cases_Bool (p y)) [
    | inl t ↦ elim (cases_Bool (p x)) [
      | inl tx ↦ let one : 1 ≡ 0 = rw t at (absent tx) in absurd (omega (arith, one))
      | inr fx ↦ rw (t, fx) refl
    ]
    | inr f ↦ elim (cases_Bool (p x)) [
      | inl tx ↦
          let none : nth p ys ≡ 0 = (none_parts y ys (absent tx)).1 in
          let more : nth p (ys ++ x ∷ []) ≡ 0 + (length ys + 1) = rw (tx, none) at (nth_push ys x (λ _. none)) in
          let last : nth p (ys ++ x ∷ []) ≡ suc (length ys) = omega (arith, more) in
          rw (f, tx, none, last) (omega arith)
      | inr fx ↦
          let same : nth p (ys ++ x ∷ []) ≡ nth p ys + 0 = rw fx at (nth_push ys x (λ tx. absurd (false≢true (sym fx ∙ tx)))) in
          let as_before : nth p (ys ++ x ∷ []) ≡ nth p ys = omega (arith, same) in
          rw (f, fx, as_before) (omega arith)
    ]
  ]

  pub nth_set : (xs : List X) (i : ℕ) (y d : X) → i < length xs → p y ≡ p (get_or xs i d) → nth p (set xs i y) ≡ nth p xs
  nth_set [] i y d lt same = absurd (omega (arith, lt))
  nth_set (x ∷ xs) zero y d lt same = rw same refl
  nth_set (x ∷ xs) (suc i) y d lt same = ap (λ (n : ℕ). cond (p x) 1 (next n)) (nth_set xs i y d (omega (arith, lt)) same)

  pub nth_removed : (xs : List X) (i : ℕ) (d : X) → i < length xs → p (get_or xs i d) ≡ false → nth p (remove xs i) ≡ lowered (suc i) (nth p xs)
  nth_removed [] i d lt other = absurd (omega (arith, lt))
  nth_removed (x ∷ xs) zero d lt other = rw other (after_first (nth p xs))
  nth_removed (x ∷ xs) (suc i) d lt other = elim (cases_Bool (p x)) [
    | inl t ↦ rw t (sym (lowered_below (suc (suc i)) 1 (omega arith)))
    | inr f ↦ rw f (ap next (nth_removed xs i d (omega (arith, lt)) other) ∙ after_later (suc i) (nth p xs) (omega arith))
  ]

  all_fail : (xs : List X) → AllByRecursion (λ (x : X). p x ≡ false) xs → nth p xs ≡ 0
  all_fail [] each = refl
  all_fail (x ∷ xs) each = rw (each.0, all_fail xs each.1) refl

-- ---- keys

module _ {K : Type 0} (equal below : K → K → Bool) (order : IsOrder equal below) where
  unlike : (a b c : K) → equal a b ≡ true → equal c b ≡ false → equal a c ≡ false
  unlike a b c one other = false_from_ne_true (equal a c) (λ t. false≢true (sym other ∙ subst (λ (k : K). equal k b ≡ true) (order.same a c t) one))

  module _ {X : Type 0} (key_of : X → K) where
    others : (key : K) (x : X) (xs : List X) → equal key (key_of x) ≡ true → AllByRecursion (λ (b : X). equal (key_of b) (key_of x) ≡ false) xs → AllByRecursion (λ (b : X). equal key (key_of b) ≡ false) xs
    others key x [] here each = tt
    others key x (b ∷ bs) here each = (unlike key (key_of x) (key_of b) here each.0, others key x bs here each.1)

    -- no other row has the key
    pub gone : (key : K) (xs : List X) (i : ℕ) → StandApart equal key_of xs → nth (λ r. equal key (key_of r)) xs ≡ suc i → nth (λ r. equal key (key_of r)) (remove xs i) ≡ 0
    gone key [] i apart is = absurd (omega (arith, is))
    gone key (x ∷ xs) zero apart is =
        all_fail (λ r. equal key (key_of r)) xs (others key x xs (first_part (λ r. equal key (key_of r)) x xs is) apart.0)
    gone key (x ∷ xs) (suc i) apart is =
        let parts = later_parts (λ r. equal key (key_of r)) x xs i is in
        rw (parts.0, gone key xs i apart.1 parts.1) refl

    -- where the rows of all keys stand after one is gone
    pub places_left : (key k : K) (xs : List X) (i : ℕ) (d : X) → StandApart equal key_of xs → nth (λ r. equal key (key_of r)) xs ≡ suc i
        → cond (equal k key) 0 (lowered (suc i) (nth (λ r. equal k (key_of r)) xs)) ≡ nth (λ r. equal k (key_of r)) (remove xs i)
    places_left key k xs i d apart is = elim (cases_Bool (equal k key)) [
      | inl t ↦ rw t (sym (subst (λ (a : K). nth (λ r. equal a (key_of r)) (remove xs i) ≡ 0) (sym (order.same k key t)) (gone key xs i apart is)))
      | inr f ↦
          let here = passes (λ r. equal key (key_of r)) xs i d is in
          let other : equal k (key_of (get_or xs i d)) ≡ false = false_from_ne_true (equal k (key_of (get_or xs i d))) (λ t.
          false≢true (sym f ∙ subst (λ (a : K). equal k a ≡ true) (order.same k (key_of (get_or xs i d)) t ∙ sym (order.same key (key_of (get_or xs i d)) here)) (order.itself k))) in
          rw f (sym (nth_removed (λ r. equal k (key_of r)) xs i d (within (λ r. equal key (key_of r)) xs i is) other))
    ]

    own_place : (row : X) (xs : List X) (key : K) → nth (λ r. equal (key_of row) (key_of r)) xs ≡ 0 → equal key (key_of row) ≡ true → nth (λ r. equal key (key_of r)) xs ≡ 0
    own_place row xs key new t = subst (λ (a : K). nth (λ r. equal a (key_of r)) xs ≡ 0) (sym (order.same key (key_of row) t)) new

    -- where the rows of all keys stand after one comes
    pub places_more : (row : X) (xs : List X) (number : ℕ) (key : K) (old : ℕ) → nth (λ r. equal (key_of row) (key_of r)) xs ≡ 0 → number ≡ length xs + 1 → old ≡ nth (λ r. equal key (key_of r)) xs
        → old + cond (equal key (key_of row)) number 0 ≡ nth (λ r. equal key (key_of r)) (xs ++ row ∷ [])
    places_more row xs number key old new is before =
        rw (before, is) (sym (nth_push (λ r. equal key (key_of r)) xs row (own_place row xs key new)))

    -- a row takes the place of one with its key
    pub still_placed : (places : Vec (Entry K)) (rows : Vec X) (spare at : ℕ) (row : X) → IsPlaced equal below key_of places rows spare → nth (λ r. equal (key_of row) (key_of r)) rows.items ≡ suc at
        → IsPlaced equal below key_of places (with_item rows at row) spare
    still_placed places rows spare at row placed is =
        let test : X → Bool = λ r. equal (key_of row) (key_of r) in
        let own : key_of row ≡ key_of (get_or rows.items at row) = order.same (key_of row) (key_of (get_or rows.items at row)) (passes test rows.items at row is) in
        record {
          ascend = placed.ascend;
          each = λ key. placed.each key ∙ sym (nth_set (λ r. equal key (key_of r)) rows.items at row row (within test rows.items at is) (ap (equal key) own));
          places_fit = placed.places_fit;
          rows_fit = placed.rows_fit;
        }

  -- ---- entries

  ascend_all : (gone : ℕ) (low : K) (es : List (Entry K)) → AllByRecursion (λ (e : Entry K). below low e.key ≡ true) es → AllByRecursion (λ (e : Entry K). below low e.key ≡ true) (map (lowered_entry gone) es)
  ascend_all gone low [] each = tt
  ascend_all gone low (e ∷ es) each = (each.0, ascend_all gone low es each.1)

  pub ascend_lowered : (gone : ℕ) (es : List (Entry K)) → Ascend below es → Ascend below (map (lowered_entry gone) es)
  ascend_lowered gone [] ascend = tt
  ascend_lowered gone (e ∷ es) ascend = (ascend_all gone e.key es ascend.0, ascend_lowered gone es ascend.1)

  none_after : (k : K) (e : Entry K) (es : List (Entry K)) → equal k e.key ≡ true → AllByRecursion (λ (other : Entry K). below e.key other.key ≡ true) es → number_in equal k es ≡ 0
  none_after k e [] here each = refl
  none_after k e (x ∷ xs) here each =
      let other : equal k x.key ≡ false = false_from_ne_true (equal k x.key) (λ t. order.irreflexive k (subst (λ (a : K). below a k ≡ true) (sym (order.same k e.key here)) (subst (λ (a : K). below e.key a ≡ true) (sym (order.same k x.key t)) each.0))) in
      let nothing : number_at equal k x ≡ 0 = rw other refl in
      sum_by-cons (number_at equal k) x xs ∙ omega (arith, nothing, none_after k e xs here each.1)

  pub number_lowered : (gone : ℕ) (k : K) (es : List (Entry K)) → Ascend below es → number_in equal k (map (lowered_entry gone) es) ≡ lowered gone (number_in equal k es)
  number_lowered gone k [] ascend = sym (lowered_below gone 0 (omega arith))
  number_lowered gone k (e ∷ es) ascend = elim (cases_Bool (equal k e.key)) [
    | inl t ↦
        let none : number_in equal k es ≡ 0 = none_after k e es t ascend.0 in
        let rest : number_in equal k (map (lowered_entry gone) es) ≡ 0 = number_lowered gone k es ascend.1 ∙ ap (lowered gone) none ∙ lowered_below gone 0 (omega arith) in
        let old : number_in equal k (e ∷ es) ≡ e.number = sum_by-cons (number_at equal k) e es ∙ (rw (t, none) (omega arith)) in
        let new : number_in equal k (map (lowered_entry gone) (e ∷ es)) ≡ lowered gone e.number = sum_by-cons (number_at equal k) (lowered_entry gone e) (map (lowered_entry gone) es) ∙ (rw (t, rest) (omega arith)) in
        new ∙ ap (lowered gone) (sym old)
    | inr f ↦
        let old : number_in equal k (e ∷ es) ≡ number_in equal k es = sum_by-cons (number_at equal k) e es ∙ (rw f (omega arith)) in
        let new : number_in equal k (map (lowered_entry gone) (e ∷ es)) ≡ number_in equal k (map (lowered_entry gone) es) = sum_by-cons (number_at equal k) (lowered_entry gone e) (map (lowered_entry gone) es) ∙ (rw f (omega arith)) in
        new ∙ number_lowered gone k es ascend.1 ∙ ap (lowered gone) (sym old)
  ]

  -- a key's entry is taken, and those after it are one less
  pub numbers_left : (gone : ℕ) (key k : K) (old taken new : List (Entry K)) → Ascend below taken → number_in equal key old ≡ gone → new ≡ map (lowered_entry gone) taken
      → number_in equal k taken + cond (equal k key) gone 0 ≡ number_in equal k old → number_in equal k new ≡ cond (equal k key) 0 (lowered gone (number_in equal k old))
  numbers_left gone key k old taken new ascend is mapped fewer = elim (cases_Bool (equal k key)) [
    | inl t ↦
        let own : number_in equal k old ≡ gone = subst (λ (a : K). number_in equal a old ≡ gone) (sym (order.same k key t)) is in
        let left : number_in equal k taken + gone ≡ number_in equal k old = rw t at fewer in
        let none : number_in equal k taken ≡ 0 = omega (arith, own, left) in
        rw (t, mapped) (number_lowered gone k taken ascend ∙ ap (lowered gone) none ∙ lowered_below gone 0 (omega arith))
    | inr f ↦
        let left : number_in equal k taken + 0 ≡ number_in equal k old = rw f at fewer in
        let same : number_in equal k taken ≡ number_in equal k old = omega (arith, left) in
        rw (f, mapped) (number_lowered gone k taken ascend ∙ ap (lowered gone) same)
  ]
