-- How counts move with each way in which a table changes.
use Rattle.std.proofs.Common.{◌≡◌, ℕ, suc, ◌+◌, ◌≤◌, Bool, true, false, cond, List, [], ◌∷◌, ◌++◌, map, length, get_or, Some, None, refl, sym, ap, ◌∙◌, arith, inl, inr}
use Rattle.std.specs.Prelude.{find, filter}
use Rattle.std.proofs.lemmas.Bool.{cases_Bool, eqb-true, ne_eqb}
use Rattle.std.proofs.lemmas.Option.{same_Some}
use Rattle.kms_world.specs.Effect.{put_row, drop_rows, change_rows}
use Rattle.kms_world.specs.Id.{is_id}
use Rattle.kms_world.specs.declared.id.Id.{Id}
use Rattle.kms_store.specs.Table.{Rises}
use Rattle.kms_store.proofs.TableLaws.{rises_at, find_none, dropped_nowhere}

module _ {X : Type 0} (counted : X → Bool) where
  -- a row comes
  pub count_push : (rows : List X) (row : X) → length (filter counted (rows ++ row ∷ [])) ≡ length (filter counted rows) + cond (counted row) 1 0
  count_push [] row = elim (cases_Bool (counted row)) [ inl t ↦ rw t (omega arith) | inr f ↦ rw f (omega arith) ]
  count_push (x ∷ xs) row = elim (cases_Bool (counted x)) [
    | inl t ↦ rw t (omega (arith, count_push xs row))
    | inr f ↦ rw f (count_push xs row)
  ]

  -- rows go that are all counted, or none of them
  pub count_left : (test : X → Bool) (b : Bool) → ((x : X) → test x ≡ true → counted x ≡ b) → (rows : List X)
      → length (filter counted (drop_rows test rows)) + cond b (length (filter test rows)) 0 ≡ length (filter counted rows)
  count_left test b alike [] = none b
    where
      none : (b : Bool) → ◌≡◌ {A = ℕ} (0 + cond b 0 0) 0
      none true = refl
      none false = refl
  count_left test b alike (x ∷ xs) = elim (cases_Bool (test x)) [
    | inl t ↦ rw (t, alike x t) (here b (count_left test b alike xs))
    | inr f ↦ rw f (there (counted x) (count_left test b alike xs))
  ]
    where
      here : (b : Bool) → length (filter counted (drop_rows test xs)) + cond b (length (filter test xs)) 0 ≡ length (filter counted xs)
          → length (filter counted (drop_rows test xs)) + cond b (suc (length (filter test xs))) 0 ≡ length (cond b (x ∷ filter counted xs) (filter counted xs))
      here true e = omega (arith, e)
      here false e = e

      there : (c : Bool) → length (filter counted (drop_rows test xs)) + cond b (length (filter test xs)) 0 ≡ length (filter counted xs)
          → length (cond c (x ∷ filter counted (drop_rows test xs)) (filter counted (drop_rows test xs))) + cond b (length (filter test xs)) 0 ≡ length (cond c (x ∷ filter counted xs) (filter counted xs))
      there true e = omega (arith, e)
      there false e = e

  -- rows are changed in nothing by which they are counted
  pub count_changed : (test : X → Bool) (g : X → X) → ((x : X) → counted (g x) ≡ counted x) → (rows : List X) → length (filter counted (change_rows test g rows)) ≡ length (filter counted rows)
  count_changed test g same [] = refl
  count_changed test g same (x ∷ xs) = elim (cases_Bool (test x)) [
    | inl here ↦ elim (cases_Bool (counted x)) [
      | inl t ↦ rw (here, same x ∙ t, t) (ap suc (count_changed test g same xs))
      | inr f ↦ rw (here, same x ∙ f, f) (count_changed test g same xs)
    ]
    | inr other ↦ elim (cases_Bool (counted x)) [
      | inl t ↦ rw (other, t) (ap suc (count_changed test g same xs))
      | inr f ↦ rw (other, f) (count_changed test g same xs)
    ]
  ]

  pub counted_few : (rows : List X) → length (filter counted rows) ≤ length rows
  counted_few [] = omega arith
  counted_few (x ∷ xs) = elim (cases_Bool (counted x)) [ inl t ↦ rw t (omega (arith, counted_few xs)) | inr f ↦ rw f (omega (arith, counted_few xs)) ]

  -- a row takes the place of another, or goes last
  pub count_put_there : (test : X → Bool) (row old : X) (rows : List X) → find test rows ≡ Some old → length (filter counted (put_row test row rows)) + cond (counted old) 1 0 ≡ length (filter counted rows) + cond (counted row) 1 0
  count_put_there test row old [] found = absurd cc
  count_put_there test row old (x ∷ xs) found = elim (cases_Bool (test x)) [
    | inl t ↦
        let is : x ≡ old = same_Some x old (rw t at found) in
        rw (t, sym is) (here (counted x) (counted row))
    | inr f ↦ rw f (there (counted x) (count_put_there test row old xs (rw f at found)))
  ]
    where
      here : (a b : Bool) → length (cond b (row ∷ filter counted xs) (filter counted xs)) + cond a 1 0 ≡ length (cond a (x ∷ filter counted xs) (filter counted xs)) + cond b 1 0
      here true true = refl
      here true false = omega arith
      here false true = omega arith
      here false false = refl

      there : (a : Bool) → length (filter counted (put_row test row xs)) + cond (counted old) 1 0 ≡ length (filter counted xs) + cond (counted row) 1 0
          → length (cond a (x ∷ filter counted (put_row test row xs)) (filter counted (put_row test row xs))) + cond (counted old) 1 0 ≡ length (cond a (x ∷ filter counted xs) (filter counted xs)) + cond (counted row) 1 0
      there true is = omega (arith, is)
      there false is = is

  pub count_put_last : (test : X → Bool) (row : X) (rows : List X) → find test rows ≡ None → length (filter counted (put_row test row rows)) ≡ length (filter counted rows) + cond (counted row) 1 0
  count_put_last test row [] none = count_push [] row
  count_put_last test row (x ∷ xs) none = elim (cases_Bool (test x)) [
    | inl t ↦ let some : cond true (Some x) (find test xs) ≡ None = rw t at none in absurd cc
    | inr f ↦ rw f (there (counted x) (count_put_last test row xs (rw f at none)))
  ]
    where
      there : (a : Bool) → length (filter counted (put_row test row xs)) ≡ length (filter counted xs) + cond (counted row) 1 0
          → length (cond a (x ∷ filter counted (put_row test row xs)) (filter counted (put_row test row xs))) ≡ length (cond a (x ∷ filter counted xs) (filter counted xs)) + cond (counted row) 1 0
      there true is = omega (arith, is)
      there false is = is

  -- the row with an id goes
  module _ (id_of : X → Id) (id : Id) where
    abbrev test : X → Bool
    test x = is_id id (id_of x)

    alone : (x : X) (xs : List X) → Rises (map id_of (x ∷ xs)) → test x ≡ true → find test xs ≡ None
    alone x xs r here = find_none test xs (λ k d lt. ne_eqb (id_of (get_or xs k d)).0 id.0 (λ same.
        absurd (omega (arith, same, eqb-true (id_of x).0 id.0 here, rises_at id_of (x ∷ xs) 0 (suc k) d r (omega arith) (omega (arith, lt))))))

    pub count_dropped : (old : X) (rows : List X) → Rises (map id_of rows) → find test rows ≡ Some old → length (filter counted (drop_rows test rows)) + cond (counted old) 1 0 ≡ length (filter counted rows)
    count_dropped old [] r found = absurd cc
    count_dropped old (x ∷ xs) r found = elim (cases_Bool (test x)) [
      | inl t ↦
          let is : x ≡ old = same_Some x old (rw t at found) in
          rw (t, sym is, dropped_nowhere test xs (alone x xs r t)) (here (counted x))
      | inr f ↦ rw f (there (counted x) (count_dropped old xs r.1 (rw f at found)))
    ]
      where
        here : (a : Bool) → length (filter counted xs) + cond a 1 0 ≡ length (cond a (x ∷ filter counted xs) (filter counted xs))
        here true = omega arith
        here false = omega arith

        there : (a : Bool) → length (filter counted (drop_rows test xs)) + cond (counted old) 1 0 ≡ length (filter counted xs)
            → length (cond a (x ∷ filter counted (drop_rows test xs)) (filter counted (drop_rows test xs))) + cond (counted old) 1 0 ≡ length (cond a (x ∷ filter counted xs) (filter counted xs))
        there true is = omega (arith, is)
        there false is = is
