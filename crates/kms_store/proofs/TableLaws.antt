-- A search by halves finds what a search from the front finds.
use Rattle.std.proofs.Common.{◌&&◌, ◌+◌, ◌-◌, ◌≡◌, ℕ, suc, ◌<◌, ◌≤◌, Bool, true, false, cond, ltb, List, [], ◌∷◌, ◌++◌, map, length, get_or, Some, None, refl, sym, ap, subst, ◌∙◌, arith, inl, inr}
use Prim.Native.Nat.{zero}
use Rattle.std.specs.Prelude.{find, slice_get, nat_lt}
use Rattle.std.specs.Global.{Vec}
use Rattle.std.specs.Vec.{with_item}
use Rattle.std.proofs.Math.Seq.{map-set_same}
use Rattle.std.specs.List.{AllByRecursion, position, position_or_len, remove, list_all}
use Rattle.std.proofs.Math.ListN.{set}
use Rattle.std.specs.List.Sorted.{IsNonDecreasingBy, IsPartitionPoint}
use Rattle.std.proofs.lemmas.Bool.{cases_Bool, eqb-true, eq-eqb, ne_eqb, ltb-true, ltb-false, lt-ltb}
use Rattle.std.proofs.lemmas.List.Sums.{position_or_len_is}
use Rattle.std.proofs.lemmas.List.Folds.{find_at}
use Rattle.std.proofs.lemmas.List.Quantifiers.{position-Some}
use Rattle.std.proofs.lemmas.List.{length-map}
use Rattle.std.proofs.lemmas.Option.{same_Some, slice_get-get_or, slice_get_past}
use Rattle.kms_world.specs.declared.id.Id.{Id}
use Rattle.kms_world.specs.Effect.{put_row, drop_rows, change_rows}
use Rattle.kms_world.specs.Id.{is_id}
use Rattle.kms_store.specs.Table.{Rises, IsIndexed}

module _ {X : Type 0} (id_of : X → Id) where
  above : (low : ℕ) (xs : List X) (j : ℕ) (d : X) → AllByRecursion (λ (other : Id). low < other.0) (map id_of xs) → j < length xs → low < (id_of (get_or xs j d)).0
  above low [] j d each lt = absurd (omega (arith, lt))
  above low (x ∷ xs) zero d each lt = each.0
  above low (x ∷ xs) (suc j) d each lt = above low xs j d each.1 (omega (arith, lt))

  -- an earlier id is below a later one
  pub rises_at : (xs : List X) (i j : ℕ) (d : X) → Rises (map id_of xs) → i < j → j < length xs → (id_of (get_or xs i d)).0 < (id_of (get_or xs j d)).0
  rises_at [] i j d r before lt = absurd (omega (arith, lt))
  rises_at (x ∷ xs) i zero d r before lt = absurd (omega (arith, before))
  rises_at (x ∷ xs) zero (suc j) d r before lt = above (id_of x).0 xs j d r.0 (omega (arith, lt))
  rises_at (x ∷ xs) (suc i) (suc j) d r before lt = rises_at xs i j d r.1 (omega (arith, before)) (omega (arith, lt))

  pub not_falling : (xs : List X) → Rises (map id_of xs) → IsNonDecreasingBy (λ x. (id_of x).0) xs
  not_falling xs r i j d le lt = elim (cases_Bool (ltb i j)) [
    | inl t ↦ omega (arith, rises_at xs i j d r (ltb-true i j t) lt)
    | inr f ↦ let same : i ≡ j = omega (arith, le, ltb-false i j f) in subst (λ (k : ℕ). (id_of (get_or xs i d)).0 ≤ (id_of (get_or xs k d)).0) same (omega arith)
  ]

  module _ (id : Id) where
    test : X → Bool
    test x = is_id id (id_of x)

    abbrev pub Parts : List X → ℕ → Type 0
    Parts xs i = IsPartitionPoint (λ x. ltb (id_of x).0 id.0 ≡ true) (λ x. ltb (id_of x).0 id.0 ≡ false) xs i

    below_fails : (x : X) → ltb (id_of x).0 id.0 ≡ true → is_id id (id_of x) ≡ false
    below_fails x t = ne_eqb (id_of x).0 id.0 (λ e. absurd (omega (arith, e, ltb-true (id_of x).0 id.0 t)))

    -- the row at the parting has the id
    pub found_there : (xs : List X) (i : ℕ) (d : X) → Parts xs i → i < length xs → (id_of (get_or xs i d)).0 ≡ id.0 → position (λ x. is_id id (id_of x)) xs ≡ Some i
    found_there xs i d parts lt same =
        let first : position_or_len (λ x. is_id id (id_of x)) xs ≡ i =
        position_or_len_is (λ x. is_id id (id_of x)) xs i d (omega (arith, lt)) (λ k before. below_fails (get_or xs k d) (parts.0 k d (omega arith) before)) (λ there. eq-eqb (id_of (get_or xs i d)).0 id.0 same) in
        rw (first, lt-ltb i (length xs) lt) refl

    -- it hasn't, or there is none
    pub found_nowhere : (xs : List X) (i : ℕ) → Rises (map id_of xs) → Parts xs i → i ≤ length xs → (i < length xs → (d : X) → (id_of (get_or xs i d)).0 ≡ id.0 → ⊥) → position (λ x. is_id id (id_of x)) xs ≡ None
    found_nowhere [] i r parts le apart = refl
    found_nowhere (y ∷ ys) i r parts le apart =
        let all : position_or_len (λ x. is_id id (id_of x)) (y ∷ ys) ≡ length (y ∷ ys) =
        position_or_len_is (λ x. is_id id (id_of x)) (y ∷ ys) (length (y ∷ ys)) y (omega arith) fails (λ there. absurd (omega (arith, there))) in
        rw (all, not_less (length (y ∷ ys))) refl
      where
        not_less : (n : ℕ) → ltb n n ≡ false
        not_less n = elim (cases_Bool (ltb n n)) [ inl t ↦ absurd (omega (arith, ltb-true n n t)) | inr f ↦ f ]

        fails : (k : ℕ) → k < length (y ∷ ys) → is_id id (id_of (get_or (y ∷ ys) k y)) ≡ false
        fails k lt = elim (cases_Bool (ltb k i)) [
          | inl t ↦ below_fails (get_or (y ∷ ys) k y) (parts.0 k y (omega arith) (ltb-true k i t))
          | inr f ↦
              let le_k : i ≤ k = ltb-false k i f in
              let at_least : id.0 ≤ (id_of (get_or (y ∷ ys) i y)).0 = ltb-false (id_of (get_or (y ∷ ys) i y)).0 id.0 (parts.1 i y (omega arith) (omega (arith, le_k, lt))) in
              let later = not_falling (y ∷ ys) r i k y le_k lt in
              ne_eqb (id_of (get_or (y ∷ ys) k y)).0 id.0 (λ e. apart (omega (arith, le_k, lt)) y (omega (arith, e, at_least, later)))
        ]

-- ---- a test that a position is of

module _ {X : Type 0} (p : X → Bool) where
  pub first_is : (xs : List X) (i : ℕ) → position p xs ≡ Some i → position_or_len p xs ≡ i
  first_is xs i at = elim (cases_Bool (ltb (position_or_len p xs) (length xs))) [
    | inl t ↦ same_Some (position_or_len p xs) i (rw t at at)
    | inr f ↦ let none : cond false (Some (position_or_len p xs)) None ≡ Some i = rw f at at in absurd cc
  ]

  pub find_there : (xs : List X) (i : ℕ) (d : X) → position p xs ≡ Some i → find p xs ≡ Some (get_or xs i d)
  find_there xs i d at = find_at p xs ∙ ap (λ (k : ℕ). slice_get xs k) (first_is xs i at) ∙ slice_get-get_or xs i d (position-Some p xs i d at).0

  -- the first that passes, by its place
  pub find_by_place : (xs : List X) (i : ℕ) (d : X) → i < length xs → p (get_or xs i d) ≡ true → ((k : ℕ) → k < i → p (get_or xs k d) ≡ false) → find p xs ≡ Some (get_or xs i d)
  find_by_place xs i d lt here before =
      let first : position_or_len p xs ≡ i = position_or_len_is p xs i d (omega (arith, lt)) before (λ there. here) in
      find_at p xs ∙ ap (λ (k : ℕ). slice_get xs k) first ∙ slice_get-get_or xs i d lt

  -- none passes
  pub find_none : (xs : List X) → ((k : ℕ) (d : X) → k < length xs → p (get_or xs k d) ≡ false) → find p xs ≡ None
  find_none [] fails = refl
  find_none (x ∷ xs) fails = rw (fails 0 x (omega arith)) (find_none xs (λ k d lt. fails (suc k) d (omega (arith, lt))))

  pub find_nowhere : (xs : List X) → position p xs ≡ None → find p xs ≡ None
  find_nowhere xs at = elim (cases_Bool (ltb (position_or_len p xs) (length xs))) [
    | inl t ↦ let none : cond true (Some (position_or_len p xs)) None ≡ None = rw t at at in absurd cc
    | inr f ↦ find_at p xs ∙ slice_get_past xs (position_or_len p xs) (ltb-false (position_or_len p xs) (length xs) f)
  ]

  -- a row in the place of another
  put_here : (row d : X) (xs : List X) (i : ℕ) → i < length xs → p (get_or xs i d) ≡ true → ((k : ℕ) → k < i → p (get_or xs k d) ≡ false) → put_row p row xs ≡ set xs i row
  put_here row d [] i lt here before = absurd (omega (arith, lt))
  put_here row d (x ∷ xs) zero lt here before = rw here refl
  put_here row d (x ∷ xs) (suc i) lt here before = rw (before 0 (omega arith)) (ap (λ (l : List X). x ∷ l) (put_here row d xs i (omega (arith, lt)) here (λ k less. before (suc k) (omega (arith, less)))))

  pub put_there : (row d : X) (xs : List X) (i : ℕ) → position p xs ≡ Some i → put_row p row xs ≡ set xs i row
  put_there row d xs i at = let is = position-Some p xs i d at in put_here row d xs i is.0 is.1 is.2

  -- a row of which there is none goes last
  pub put_last : (row : X) (xs : List X) → find p xs ≡ None → put_row p row xs ≡ xs ++ row ∷ []
  put_last row [] none = refl
  put_last row (x ∷ xs) none = elim (cases_Bool (p x)) [
    | inl t ↦ let some : cond true (Some x) (find p xs) ≡ None = rw t at none in absurd cc
    | inr f ↦ rw f (ap (λ (l : List X). x ∷ l) (put_last row xs (rw f at none)))
  ]

  nothing_dropped : (xs : List X) → ((k : ℕ) (d : X) → k < length xs → p (get_or xs k d) ≡ false) → drop_rows p xs ≡ xs
  nothing_dropped [] fails = refl
  nothing_dropped (x ∷ xs) fails = rw (fails 0 x (omega arith)) (ap (λ (l : List X). x ∷ l) (nothing_dropped xs (λ k d lt. fails (suc k) d (omega (arith, lt)))))

  drop_here : (d : X) (xs : List X) (i : ℕ) → i < length xs → p (get_or xs i d) ≡ true → ((k : ℕ) → k < i → p (get_or xs k d) ≡ false)
      → ((k : ℕ) (e : X) → i < k → k < length xs → p (get_or xs k e) ≡ false) → drop_rows p xs ≡ remove xs i
  drop_here d [] i lt here before after = absurd (omega (arith, lt))
  drop_here d (x ∷ xs) zero lt here before after = rw here (nothing_dropped xs (λ k e less. after (suc k) e (omega arith) (omega (arith, less))))
  drop_here d (x ∷ xs) (suc i) lt here before after =
      rw (before 0 (omega arith)) (ap (λ (l : List X). x ∷ l) (drop_here d xs i (omega (arith, lt)) here (λ k less. before (suc k) (omega (arith, less))) (λ k e more less. after (suc k) e (omega (arith, more)) (omega (arith, less)))))

  pub dropped_nowhere : (xs : List X) → find p xs ≡ None → drop_rows p xs ≡ xs
  dropped_nowhere [] none = refl
  dropped_nowhere (x ∷ xs) none = elim (cases_Bool (p x)) [
    | inl t ↦ let some : cond true (Some x) (find p xs) ≡ None = rw t at none in absurd cc
    | inr f ↦ rw f (ap (λ (l : List X). x ∷ l) (dropped_nowhere xs (rw f at none)))
  ]

-- the row with an id goes from its place
pub dropped_there : {X : Type 0} (id_of : X → Id) (id : Id) (d : X) (xs : List X) (i : ℕ) → Rises (map id_of xs) → position (λ x. is_id id (id_of x)) xs ≡ Some i
    → drop_rows (λ x. is_id id (id_of x)) xs ≡ remove xs i
dropped_there id_of id d xs i r at =
    let is = position-Some (λ x. is_id id (id_of x)) xs i d at in
    drop_here (λ x. is_id id (id_of x)) d xs i is.0 is.1 is.2
    (λ k e more less. ne_eqb (id_of (get_or xs k e)).0 id.0 (λ same.
    let here : (id_of (get_or xs i e)).0 ≡ id.0 = eqb-true (id_of (get_or xs i e)).0 id.0 (position-Some (λ x. is_id id (id_of x)) xs i e at).1 in
    absurd (omega (arith, same, here, rises_at id_of xs i k e r more less))))

-- ---- the ids beside the rows

module _ {X Y : Type 0} (f : X → Y) where
  place_map : (p : Y → Bool) (xs : List X) → position_or_len p (map f xs) ≡ position_or_len (λ x. p (f x)) xs
  place_map p [] = refl
  place_map p (x ∷ xs) = elim (cases_Bool (p (f x))) [ inl t ↦ rw t refl | inr n ↦ rw n (ap (λ (k : ℕ). 1 + k) (place_map p xs)) ]

  pub position_map : (p : Y → Bool) (xs : List X) → position p (map f xs) ≡ position (λ x. p (f x)) xs
  position_map p xs = rw (place_map p xs, length-map xs f) refl

  pub map_remove : (xs : List X) (i : ℕ) → remove (map f xs) i ≡ map f (remove xs i)
  map_remove [] zero = refl
  map_remove [] (suc i) = refl
  map_remove (x ∷ xs) zero = refl
  map_remove (x ∷ xs) (suc i) = ap (λ (ys : List Y). f x ∷ ys) (map_remove xs i)

-- a row takes the place of one with its id
pub still_indexed : {X : Type 0} (id_of : X → Id) (ids : Vec Id) (rows : Vec X) (spare at : ℕ) (new d : X) → IsIndexed id_of ids rows spare → id_of new ≡ id_of (get_or rows.items at d) → IsIndexed id_of ids (with_item rows at new) spare
still_indexed id_of ids rows spare at new d indexed same = record {
  same = indexed.same ∙ sym (map-set_same id_of rows.items at new d same);
  ids_fit = indexed.ids_fit;
  rows_fit = indexed.rows_fit;
}

-- ---- the last id

module _ {X : Type 0} (id_of : X → Id) (n : ℕ) where
  abbrev below : Id → Bool
  below i = nat_lt i.0 n

  lower : (y z : Id) (b : Bool) → y.0 < z.0 → b ≡ below z → (c : Bool) → (b ≡ false → c ≡ false) → (below y && c) ≡ c
  lower y z true lt is c falls = rw (lt-ltb y.0 n (omega (arith, lt, ltb-true z.0 n (sym is)))) refl
  lower y z false lt is c falls = rw (falls refl) (none (below y))
    where
      none : (b : Bool) → (b && false) ≡ false
      none true = refl
      none false = refl

  and_true : (b : Bool) → (b && true) ≡ b
  and_true true = refl
  and_true false = refl

  pub all_below : (xs : List X) (k : ℕ) (x : X) → Rises (map id_of xs) → suc k ≡ length xs → slice_get xs k ≡ Some x → list_all (λ (i : Id). nat_lt i.0 n) (map id_of xs) ≡ nat_lt (id_of x).0 n
  all_below [] k x r len is = absurd cc
  all_below (y ∷ []) zero x r len is = subst (λ (z : X). (below (id_of y) && true) ≡ below (id_of z)) (same_Some y x is) (and_true (below (id_of y)))
  all_below (y ∷ []) (suc k) x r len is = absurd (omega (arith, len))
  all_below (y ∷ (z ∷ zs)) zero x r len is = absurd (omega (arith, len))
  all_below (y ∷ (z ∷ zs)) (suc k) x r len is = lower (id_of y) (id_of z) (below (id_of z)) r.0.0 refl (list_all below (map id_of (z ∷ zs))) (λ no. rw no refl) ∙ all_below (z ∷ zs) k x r.1 (omega (arith, len)) is

  pub none_below : (xs : List X) (k : ℕ) → k ≡ length xs - 1 → slice_get xs k ≡ None → list_all (λ (i : Id). nat_lt i.0 n) (map id_of xs) ≡ true
  none_below [] k is none = refl
  none_below (x ∷ xs) k is none = let some = slice_get-get_or (x ∷ xs) k x (omega (arith, is)) in absurd cc

  pub last_place : (xs : List X) (k : ℕ) (x : X) → k ≡ length xs - 1 → slice_get xs k ≡ Some x → suc k ≡ length xs
  last_place [] k x is some = absurd cc
  last_place (y ∷ ys) k x is some = omega (arith, is)

-- ---- rows that are changed

module _ {X : Type 0} (id_of : X → Id) (id : Id) (f : X → X) where
  nothing_changed : (xs : List X) → ((k : ℕ) (d : X) → k < length xs → is_id id (id_of (get_or xs k d)) ≡ false) → change_rows (λ x. is_id id (id_of x)) f xs ≡ xs
  nothing_changed [] fails = refl
  nothing_changed (x ∷ xs) fails = rw (fails 0 x (omega arith)) (ap (λ (l : List X). x ∷ l) (nothing_changed xs (λ k d lt. fails (suc k) d (omega (arith, lt)))))

  change_here : (d e : X) (xs : List X) (i : ℕ) → i < length xs → is_id id (id_of (get_or xs i d)) ≡ true → e ≡ f (get_or xs i d) → ((k : ℕ) → k < i → is_id id (id_of (get_or xs k d)) ≡ false)
      → ((k : ℕ) (e : X) → i < k → k < length xs → is_id id (id_of (get_or xs k e)) ≡ false) → set xs i e ≡ change_rows (λ x. is_id id (id_of x)) f xs
  change_here d e [] i lt here is before after = absurd (omega (arith, lt))
  change_here d e (x ∷ xs) zero lt here is before after = rw (here, is, nothing_changed xs (λ k y less. after (suc k) y (omega arith) (omega (arith, less)))) refl
  change_here d e (x ∷ xs) (suc i) lt here is before after =
      rw (before 0 (omega arith)) (ap (λ (l : List X). x ∷ l) (change_here d e xs i (omega (arith, lt)) here is (λ k less. before (suc k) (omega (arith, less))) (λ k y more less. after (suc k) y (omega (arith, more)) (omega (arith, less)))))

  pub changed_there : (old new : X) (xs : List X) (i : ℕ) → Rises (map id_of xs) → position (λ x. is_id id (id_of x)) xs ≡ Some i → new ≡ f (get_or xs i old)
      → set xs i new ≡ change_rows (λ x. is_id id (id_of x)) f xs
  changed_there old new xs i r at is =
      let there = position-Some (λ x. is_id id (id_of x)) xs i old at in
      change_here old new xs i there.0 there.1 is there.2
      (λ k e more less. ne_eqb (id_of (get_or xs k e)).0 id.0 (λ same.
      let first : (id_of (get_or xs i e)).0 ≡ id.0 = eqb-true (id_of (get_or xs i e)).0 id.0 (position-Some (λ x. is_id id (id_of x)) xs i e at).1 in
      absurd (omega (arith, same, first, rises_at id_of xs i k e r more less))))

  pub changed_nowhere : (xs : List X) → position (λ x. is_id id (id_of x)) xs ≡ None → xs ≡ change_rows (λ x. is_id id (id_of x)) f xs
  changed_nowhere xs at = sym (unchanged xs (find_nowhere (λ x. is_id id (id_of x)) xs at))
    where
      unchanged : (xs : List X) → find (λ x. is_id id (id_of x)) xs ≡ None → change_rows (λ x. is_id id (id_of x)) f xs ≡ xs
      unchanged [] none = refl
      unchanged (x ∷ xs) none = elim (cases_Bool (is_id id (id_of x))) [
        | inl t ↦ let some : cond true (Some x) (find (λ x. is_id id (id_of x)) xs) ≡ None = rw t at none in absurd cc
        | inr other ↦ rw other (ap (λ (l : List X). x ∷ l) (unchanged xs (rw other at none)))
      ]
