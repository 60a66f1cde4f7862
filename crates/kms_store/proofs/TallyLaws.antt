-- Entries by key, when numbers come and go.
use Rattle.std.proofs.Common.{◌≡◌, ℕ, suc, ◌+◌, ◌<◌, ◌≤◌, Bool, true, false, cond, ltb, List, [], ◌∷◌, length, get_or, set, refl, sym, subst, ◌∙◌, arith, inl, inr}
use Prim.Native.Nat.{zero}
use Rattle.std.specs.List.{AllByRecursion, insert, remove}
use Rattle.std.specs.List.Sorted.{IsPartitionedBy, IsPartitionPoint}
use Rattle.std.proofs.lemmas.Bool.{cases_Bool, false_from_ne_true, ltb-true, ltb-false}
use Rattle.std.proofs.lemmas.List.Sums.{sum_by-cons, sum_by-set, sum_by-insert, sum_by-remove}
use Rattle.kms_store.specs.IndexKey.{IsOrder}
use Rattle.kms_store.specs.Tally.{number_at, number_in, Ascend, GoesAt}
use Rattle.kms_store.specs.declared.tally.Entry.{Entry}

module _ {K : Type 0} (equal below : K → K → Bool) (order : IsOrder equal below) where
  pub own_key : (a b : K) → a ≡ b → equal a b ≡ true
  own_key a b same = subst (λ (k : K). equal a k ≡ true) same (order.itself a)

  abbrev Comes : Entry K → Entry K → Type 0
  Comes a b = below a.key b.key ≡ true

  above : (low : Entry K) (xs : List (Entry K)) (j : ℕ) (d : Entry K) → AllByRecursion (Comes low) xs → j < length xs → Comes low (get_or xs j d)
  above low [] j d each lt = absurd (omega (arith, lt))
  above low (x ∷ xs) zero d each lt = each.0
  above low (x ∷ xs) (suc j) d each lt = above low xs j d each.1 (omega (arith, lt))

  -- an earlier key comes before a later one
  ascend_at : (xs : List (Entry K)) (i j : ℕ) (d : Entry K) → Ascend below xs → i < j → j < length xs → Comes (get_or xs i d) (get_or xs j d)
  ascend_at [] i j d r before lt = absurd (omega (arith, lt))
  ascend_at (x ∷ xs) i zero d r before lt = absurd (omega (arith, before))
  ascend_at (x ∷ xs) zero (suc j) d r before lt = above x xs j d r.0 (omega (arith, lt))
  ascend_at (x ∷ xs) (suc i) (suc j) d r before lt = ascend_at xs i j d r.1 (omega (arith, before)) (omega (arith, lt))

  pub parted : (key : K) (xs : List (Entry K)) → Ascend below xs → IsPartitionedBy (λ e. below e.key key) xs
  parted key xs r i j d le lt is = elim (cases_Bool (ltb i j)) [
    | inl t ↦ order.transitive (get_or xs i d).key (get_or xs j d).key key (ascend_at xs i j d r (ltb-true i j t) lt) is
    | inr f ↦ let same : i ≡ j = omega (arith, le, ltb-false i j f) in subst (λ (k : ℕ). below (get_or xs k d).key key ≡ true) (sym same) is
  ]

  abbrev Parts : K → List (Entry K) → ℕ → Type 0
  Parts key xs i = IsPartitionPoint (λ e. below e.key key ≡ true) (λ e. below e.key key ≡ false) xs i

  -- the entry at the parting is another's, or there is none
  pub goes_at : (key : K) (xs : List (Entry K)) (i : ℕ) → Ascend below xs → Parts key xs i → i ≤ length xs → (i < length xs → (d : Entry K) → key ≡ (get_or xs i d).key → ⊥) → GoesAt below key xs i
  goes_at key xs i r parts le apart = record {
    within = le;
    before = λ k d less. parts.0 k d (omega arith) less;
    after = λ k d from lt. elim (cases_Bool (ltb i k)) [
      | inl later ↦ order.transitive key (get_or xs i d).key (get_or xs k d).key (first d (omega (arith, from, lt))) (ascend_at xs i k d r (ltb-true i k later) lt)
      | inr other ↦ let same : i ≡ k = omega (arith, from, ltb-false i k other) in subst (λ (j : ℕ). below key (get_or xs j d).key ≡ true) same (first d (omega (arith, same, lt)))
    ];
  }
    where
      first : (d : Entry K) → i < length xs → below key (get_or xs i d).key ≡ true
      first d lt = order.total (get_or xs i d).key key (parts.1 i d (omega arith) lt) (λ e. apart lt d (sym e))

  -- ---- an entry's number

  module _ (p : K) where
    at_own : (e : Entry K) → e.key ≡ p → number_at equal p e ≡ e.number
    at_own e is = let same : equal p e.key ≡ true = (own_key p e.key) (sym is) in rw same refl

    at_other : (e : Entry K) → (p ≡ e.key → ⊥) → number_at equal p e ≡ 0
    at_other e apart = let no : equal p e.key ≡ false = false_from_ne_true (equal p e.key) (λ same. apart (order.same p e.key same)) in rw no refl

    pub none_in : (xs : List (Entry K)) → ((k : ℕ) (d : Entry K) → k < length xs → p ≡ (get_or xs k d).key → ⊥) → number_in equal p xs ≡ 0
    none_in [] apart = refl
    none_in (x ∷ xs) apart =
        let other : number_at equal p x ≡ 0 = at_other x (apart 0 x (omega arith)) in
        let rest : number_in equal p xs ≡ 0 = none_in xs (λ k d lt. apart (suc k) d (omega (arith, lt))) in
        sum_by-cons (number_at equal p) x xs ∙ omega (arith, other, rest)

    -- all other entries are of other keys
    pub rows_there : (xs : List (Entry K)) (i : ℕ) (d : Entry K) → Ascend below xs → i < length xs → (get_or xs i d).key ≡ p → number_in equal p xs ≡ (get_or xs i d).number
    rows_there [] i d r lt is = absurd (omega (arith, lt))
    rows_there (x ∷ xs) zero d r lt is =
        let rest : number_in equal p xs ≡ 0 = none_in xs (λ k e less same. order.irreflexive p (subst (λ (q : K). below q p ≡ true) is (subst (λ (q : K). below x.key q ≡ true) (sym same) (above x xs k e r.0 less)))) in
        let own : number_at equal p x ≡ x.number = at_own x is in
        sum_by-cons (number_at equal p) x xs ∙ omega (arith, rest, own)
    rows_there (x ∷ xs) (suc i) d r lt is =
        let other : number_at equal p x ≡ 0 = at_other x (λ same. order.irreflexive p (subst (λ (q : K). below q p ≡ true) (sym same) (subst (λ (q : K). below x.key q ≡ true) is (above x xs i d r.0 (omega (arith, lt)))))) in
        let rest : number_in equal p xs ≡ (get_or xs i d).number = rows_there xs i d r.1 (omega (arith, lt)) is in
        sum_by-cons (number_at equal p) x xs ∙ omega (arith, other, rest)

  pub rows_nowhere : (key : K) (xs : List (Entry K)) (i : ℕ) → GoesAt below key xs i → number_in equal key xs ≡ 0
  rows_nowhere key xs i goes = none_in key xs (λ k d lt same. elim (cases_Bool (ltb k i)) [
    | inl t ↦ order.irreflexive key (subst (λ (q : K). below q key ≡ true) (sym same) (goes.before k d (ltb-true k i t)))
    | inr f ↦ order.irreflexive key (subst (λ (q : K). below key q ≡ true) (sym same) (goes.after k d (ltb-false k i f) lt))
  ])

  -- ---- the order stays

  all_at : (P : Entry K → Type 0) (xs : List (Entry K)) → ((k : ℕ) (d : Entry K) → k < length xs → P (get_or xs k d)) → AllByRecursion P xs
  all_at P [] each = tt
  all_at P (x ∷ xs) each = (each 0 x (omega arith), all_at P xs (λ k d lt. each (suc k) d (omega (arith, lt))))

  all_insert : (P : Entry K → Type 0) (xs : List (Entry K)) (i : ℕ) (y : Entry K) → AllByRecursion P xs → P y → AllByRecursion P (insert xs i y)
  all_insert P xs zero y each new = (new, each)
  all_insert P [] (suc i) y each new = (new, tt)
  all_insert P (x ∷ xs) (suc i) y each new = (each.0, all_insert P xs i y each.1 new)

  all_remove : (P : Entry K → Type 0) (xs : List (Entry K)) (i : ℕ) → AllByRecursion P xs → AllByRecursion P (remove xs i)
  all_remove P [] zero each = tt
  all_remove P [] (suc i) each = tt
  all_remove P (x ∷ xs) zero each = each.1
  all_remove P (x ∷ xs) (suc i) each = (each.0, all_remove P xs i each.1)

  all_set : (P : Entry K → Type 0) (xs : List (Entry K)) (i : ℕ) (y : Entry K) → AllByRecursion P xs → P y → AllByRecursion P (set xs i y)
  all_set P [] i y each new = tt
  all_set P (x ∷ xs) zero y each new = (new, each.1)
  all_set P (x ∷ xs) (suc i) y each new = (each.0, all_set P xs i y each.1 new)

  pub ascend_insert : (xs : List (Entry K)) (i : ℕ) (y : Entry K) → Ascend below xs → GoesAt below y.key xs i → Ascend below (insert xs i y)
  ascend_insert xs zero y r goes = (all_at (Comes y) xs (λ k d lt. goes.after k d (omega arith) lt), r)
  ascend_insert [] (suc i) y r goes = (tt, tt)
  ascend_insert (x ∷ xs) (suc i) y r goes = (
    all_insert (Comes x) xs i y r.0 (goes.before 0 x (omega arith)),
    ascend_insert xs i y r.1 (record {
      within = omega (arith, goes.within);
      before = λ k d less. goes.before (suc k) d (omega (arith, less));
      after = λ k d from lt. goes.after (suc k) d (omega (arith, from)) (omega (arith, lt));
    }),
  )

  pub ascend_remove : (xs : List (Entry K)) (i : ℕ) → Ascend below xs → Ascend below (remove xs i)
  ascend_remove [] zero r = tt
  ascend_remove [] (suc i) r = tt
  ascend_remove (x ∷ xs) zero r = r.1
  ascend_remove (x ∷ xs) (suc i) r = (all_remove (Comes x) xs i r.0, ascend_remove xs i r.1)

  pub ascend_set : (xs : List (Entry K)) (i : ℕ) (y d : Entry K) → Ascend below xs → i < length xs → (get_or xs i d).key ≡ y.key → Ascend below (set xs i y)
  ascend_set [] i y d r lt is = tt
  ascend_set (x ∷ xs) zero y d r lt is = (subst (λ (q : K). AllByRecursion (λ (other : Entry K). below q other.key ≡ true) xs) is r.0, r.1)
  ascend_set (x ∷ xs) (suc i) y d r lt is = (
    all_set (Comes x) xs i y r.0 (subst (λ (q : K). below x.key q ≡ true) is (above x xs i d r.0 (omega (arith, lt)))),
    ascend_set xs i y d r.1 (omega (arith, lt)) is,
  )

  -- ---- the number of each key

  module _ (xs : List (Entry K)) (i : ℕ) (d new : Entry K) (lt : i < length xs) (same : new.key ≡ (get_or xs i d).key) where
    set_rows : (p : K) → number_in equal p (set xs i new) + number_at equal p (get_or xs i d) ≡ number_in equal p xs + number_at equal p new
    set_rows p = sum_by-set (number_at equal p) xs i new d lt

    pub set_more : (n : ℕ) (key p : K) → new.key ≡ key → new.number ≡ (get_or xs i d).number + n → number_in equal p (set xs i new) ≡ number_in equal p xs + cond (equal p key) n 0
    set_more n key p is more = elim (cases_Bool (equal p key)) [
      | inl t ↦
          let own : number_at equal p new ≡ new.number = at_own p new (is ∙ sym (order.same p key t)) in
          let old : number_at equal p (get_or xs i d) ≡ (get_or xs i d).number = at_own p (get_or xs i d) (sym same ∙ is ∙ sym (order.same p key t)) in
          rw t (omega (arith, set_rows p, own, old, more))
      | inr f ↦
          let apart : (p ≡ key → ⊥) = λ e. bad e f in
          let own : number_at equal p new ≡ 0 = at_other p new (λ e. apart (e ∙ is)) in
          let old : number_at equal p (get_or xs i d) ≡ 0 = at_other p (get_or xs i d) (λ e. apart (e ∙ sym same ∙ is)) in
          rw f (omega (arith, set_rows p, own, old))
    ]
      where
        bad : p ≡ key → equal p key ≡ false → ⊥
        bad e f = let t : equal p key ≡ true = (own_key p key) e in let no : true ≡ false = sym t ∙ f in absurd cc

    pub set_fewer : (n : ℕ) (key p : K) → new.key ≡ key → new.number + n ≡ (get_or xs i d).number → number_in equal p (set xs i new) + cond (equal p key) n 0 ≡ number_in equal p xs
    set_fewer n key p is fewer = elim (cases_Bool (equal p key)) [
      | inl t ↦
          let own : number_at equal p new ≡ new.number = at_own p new (is ∙ sym (order.same p key t)) in
          let old : number_at equal p (get_or xs i d) ≡ (get_or xs i d).number = at_own p (get_or xs i d) (sym same ∙ is ∙ sym (order.same p key t)) in
          rw t (omega (arith, set_rows p, own, old, fewer))
      | inr f ↦
          let apart : (p ≡ key → ⊥) = λ e. bad e f in
          let own : number_at equal p new ≡ 0 = at_other p new (λ e. apart (e ∙ is)) in
          let old : number_at equal p (get_or xs i d) ≡ 0 = at_other p (get_or xs i d) (λ e. apart (e ∙ sym same ∙ is)) in
          rw f (omega (arith, set_rows p, own, old))
    ]
      where
        bad : p ≡ key → equal p key ≡ false → ⊥
        bad e f = let t : equal p key ≡ true = (own_key p key) e in let no : true ≡ false = sym t ∙ f in absurd cc

  pub insert_more : (xs : List (Entry K)) (i : ℕ) (new : Entry K) (p : K) → number_in equal p (insert xs i new) ≡ number_in equal p xs + cond (equal p new.key) new.number 0
  insert_more xs i new p = sum_by-insert (number_at equal p) xs i new

  pub remove_all : (xs : List (Entry K)) (i : ℕ) (d : Entry K) (key p : K) → i < length xs → (get_or xs i d).key ≡ key → number_in equal p (remove xs i) + cond (equal p key) (get_or xs i d).number 0 ≡ number_in equal p xs
  remove_all xs i d key p lt is = subst (λ (q : K). number_in equal p (remove xs i) + cond (equal p q) (get_or xs i d).number 0 ≡ number_in equal p xs) is (sum_by-remove (number_at equal p) xs i d lt)
