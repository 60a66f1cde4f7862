-- Secrets by their ids, where ids rise.
use Rattle.std.proofs.Common.{◌≡◌, ℕ, ◌<◌, Bool, true, false, List, [], ◌∷◌, ◌++◌, map, Option, Some, None, refl, sym, ap, subst, ◌∙◌, arith, inl, inr}
use Rattle.std.specs.Prelude.{find}
use Rattle.std.specs.List.{AllByRecursion, AllZip}
use Rattle.std.proofs.lemmas.Bool.{cases_Bool, eqb-true, ne_eqb}
use Rattle.kms_world.specs.Id.{is_id}
use Rattle.kms_world.specs.LookUp.{secret_of}
use Rattle.kms_world.specs.declared.id.Id.{Id}
use Rattle.kms_world.specs.declared.secret.SecretRow.{SecretRow}
use Rattle.kms_kept.specs.Rising.{IsGiven, Rises}

some_same : {A : Type 0} (x y : A) → (let o : Option A = Some x in let p : Option A = Some y in o ≡ p) → x ≡ y
some_same x y e = cc

none_after : (id : Id) (row x : SecretRow) (xs : List SecretRow) → is_id id x.id ≡ true → AllByRecursion (λ (other : Id). x.id.0 < other.0) (map (λ (y : SecretRow). y.id) xs)
    → AllByRecursion (λ (y : SecretRow). is_id id y.id ≡ true → y ≡ row) xs
none_after id row x [] at above = tt
none_after id row x (y ∷ ys) at above =
    (λ e. absurd (omega (arith, above.0, eqb-true x.id.0 id.0 at, eqb-true y.id.0 id.0 e)), none_after id row x ys at above.1)

clash : (b : Bool) → b ≡ false → b ≡ true → ⊥
clash true f t = cc
clash false f t = cc

-- where ids rise, a secret that a look-up finds is the only one with its id
pub only_one : (tag n : ℕ) (rows : List SecretRow) (id : Id) (row : SecretRow) → Rises tag n (map (λ (x : SecretRow). x.id) rows) → find (λ r. is_id id r.id) rows ≡ Some row
    → AllByRecursion (λ (x : SecretRow). is_id id x.id ≡ true → x ≡ row) rows
only_one tag n [] id row r found = absurd cc
only_one tag n (x ∷ xs) id row r found = elim (cases_Bool (is_id id x.id)) [
  | inl t ↦ (λ e. some_same x row (rw t at found), none_after id row x xs t r.1)
  | inr f ↦ (λ e. absurd (clash (is_id id x.id) f e), only_one tag n xs id row r.2 (rw f at found))
]

pub given_of : (tag n : ℕ) (rows : List SecretRow) (id : Id) (row : SecretRow) → Rises tag n (map (λ (r : SecretRow). r.id) rows) → secret_of id rows ≡ Some row → IsGiven tag n row.id
given_of tag n [] id row r found = absurd cc
given_of tag n (x ∷ xs) id row r found = elim (cases_Bool (is_id id x.id)) [
  | inl t ↦ subst (λ (z : SecretRow). IsGiven tag n z.id) (some_same x row (rw t at found)) r.0
  | inr f ↦ given_of tag n xs id row r.2 (rw f at found)
]

-- what is found in the opened rows stands sealed in the kept ones
pub record Sealed (R : SecretRow → SecretRow → Type 0) (id : Id) (xs : List SecretRow) (y : SecretRow) : Type 0 where
  pub row : SecretRow
  pub found : secret_of id xs ≡ Some row
  pub opens : R row y

pub found_sealed : (R : SecretRow → SecretRow → Type 0) → ((x y : SecretRow) → R x y → y.id ≡ x.id) → (id : Id) (xs ys : List SecretRow) (y : SecretRow) → AllZip R xs ys → secret_of id ys ≡ Some y → Sealed R id xs y
found_sealed R same id [] [] y each found = absurd cc
found_sealed R same id [] (b ∷ ys) y each found = absurd each
found_sealed R same id (a ∷ xs) [] y each found = absurd each
found_sealed R same id (a ∷ xs) (b ∷ ys) y each found = elim (cases_Bool (is_id id b.id)) [
  | inl t ↦
      let here : is_id id a.id ≡ true = ap (λ (i : Id). is_id id i) (sym (same a b each.0)) ∙ t in
      record { row = a; found = rw here refl; opens = subst (λ (z : SecretRow). R a z) (some_same b y (rw t at found)) each.0 }
  | inr f ↦
      let past : is_id id a.id ≡ false = ap (λ (i : Id). is_id id i) (sym (same a b each.0)) ∙ f in
      let s = found_sealed R same id xs ys y each.1 (rw f at found) in
      record { row = s.row; found = rw past s.found; opens = s.opens }
]

-- what is found in the kept rows stands opened in the others
pub record Standing (R : SecretRow → SecretRow → Type 0) (id : Id) (x : SecretRow) (ys : List SecretRow) : Type 0 where
  pub row : SecretRow
  pub found : secret_of id ys ≡ Some row
  pub opens : R x row

pub found_opened : (R : SecretRow → SecretRow → Type 0) → ((x y : SecretRow) → R x y → y.id ≡ x.id) → (id : Id) (xs ys : List SecretRow) (x : SecretRow) → AllZip R xs ys → secret_of id xs ≡ Some x → Standing R id x ys
found_opened R same id [] [] x each found = absurd cc
found_opened R same id [] (b ∷ ys) x each found = absurd each
found_opened R same id (a ∷ xs) [] x each found = absurd each
found_opened R same id (a ∷ xs) (b ∷ ys) x each found = elim (cases_Bool (is_id id a.id)) [
  | inl t ↦
      let here : is_id id b.id ≡ true = ap (λ (i : Id). is_id id i) (same a b each.0) ∙ t in
      record { row = b; found = rw here refl; opens = subst (λ (z : SecretRow). R z b) (some_same a x (rw t at found)) each.0 }
  | inr f ↦
      let past : is_id id b.id ≡ false = ap (λ (i : Id). is_id id i) (same a b each.0) ∙ f in
      let s = found_opened R same id xs ys x each.1 (rw f at found) in
      record { row = s.row; found = rw past s.found; opens = s.opens }
]

pub found_neither : (R : SecretRow → SecretRow → Type 0) → ((x y : SecretRow) → R x y → y.id ≡ x.id) → (id : Id) (xs ys : List SecretRow) → AllZip R xs ys → secret_of id xs ≡ None → secret_of id ys ≡ None
found_neither R same id [] [] each found = refl
found_neither R same id [] (b ∷ ys) each found = absurd each
found_neither R same id (a ∷ xs) [] each found = absurd each
found_neither R same id (a ∷ xs) (b ∷ ys) each found = elim (cases_Bool (is_id id a.id)) [
  | inl t ↦ let there : Some a ≡ None = rw t at found in absurd cc
  | inr f ↦
      let past : is_id id b.id ≡ false = ap (λ (i : Id). is_id id i) (same a b each.0) ∙ f in
      rw past (found_neither R same id xs ys each.1 (rw f at found))
]

-- a new row is found under its id
pub find_last : (id : Id) (row : SecretRow) (rows : List SecretRow) → is_id id row.id ≡ true → AllByRecursion (λ (other : Id). other.0 < id.0) (map (λ (r : SecretRow). r.id) rows) → secret_of id (rows ++ row ∷ []) ≡ Some row
find_last id row [] at below = rw at refl
find_last id row (x ∷ xs) at below =
    let past : is_id id x.id ≡ false = ne_eqb x.id.0 id.0 (λ e. absurd (omega (arith, e, below.0))) in
    rw past (find_last id row xs at below.1)
