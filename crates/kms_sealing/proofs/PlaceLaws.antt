-- Keys at the places of their rows.
use Rattle.std.proofs.Common.{◌≡◌, ℕ, suc, ◌<◌, Bool, true, false, List, [], ◌∷◌, ◌++◌, length, get_or, Some, refl, ap, arith}
use Prim.Native.Nat.{zero}
use Rattle.std.specs.Prelude.{find}
use Rattle.std.specs.List.{AllByRecursion, AllZip, insert, list_any}

-- ---- side by side

pub zip_at : {A B : Type 0} (R : A → B → Type 0) (xs : List A) (ys : List B) (i : ℕ) (d : A) (e : B) → AllZip R xs ys → i < length xs → R (get_or xs i d) (get_or ys i e)
zip_at R [] ys i d e each lt = absurd (omega (arith, lt))
zip_at R (x ∷ xs) [] i d e each lt = absurd each
zip_at R (x ∷ xs) (y ∷ ys) zero d e each lt = each.0
zip_at R (x ∷ xs) (y ∷ ys) (suc i) d e each lt = zip_at R xs ys i d e each.1 (omega (arith, lt))

pub zip_length : {A B : Type 0} (R : A → B → Type 0) (xs : List A) (ys : List B) → AllZip R xs ys → length xs ≡ length ys
zip_length R [] [] each = refl
zip_length R [] (y ∷ ys) each = absurd each
zip_length R (x ∷ xs) [] each = absurd each
zip_length R (x ∷ xs) (y ∷ ys) each = ap (λ (n : ℕ). suc n) (zip_length R xs ys each.1)

pub zip_push : {A B : Type 0} (R : A → B → Type 0) (xs : List A) (ys : List B) (x : A) (y : B) → AllZip R xs ys → R x y → AllZip R (xs ++ x ∷ []) (ys ++ y ∷ [])
zip_push R [] [] x y each last = (last, tt)
zip_push R [] (b ∷ ys) x y each last = absurd each
zip_push R (a ∷ xs) [] x y each last = absurd each
zip_push R (a ∷ xs) (b ∷ ys) x y each last = (each.0, zip_push R xs ys x y each.1 last)

pub zip_insert : {A B : Type 0} (R : A → B → Type 0) (xs : List A) (ys : List B) (i : ℕ) (x : A) (y : B) → AllZip R xs ys → R x y → AllZip R (insert xs i x) (insert ys i y)
zip_insert R [] [] zero x y each new = (new, tt)
zip_insert R [] [] (suc i) x y each new = (new, tt)
zip_insert R [] (b ∷ ys) i x y each new = absurd each
zip_insert R (a ∷ xs) [] i x y each new = absurd each
zip_insert R (a ∷ xs) (b ∷ ys) zero x y each new = (new, each)
zip_insert R (a ∷ xs) (b ∷ ys) (suc i) x y each new = (each.0, zip_insert R xs ys i x y each.1 new)

-- ---- one list

pub all_places : {A : Type 0} (P : A → Type 0) (xs : List A) → ((k : ℕ) (d : A) → k < length xs → P (get_or xs k d)) → AllByRecursion P xs
all_places P [] each = tt
all_places P (x ∷ xs) each = (each 0 x (omega arith), all_places P xs (λ k d lt. each (suc k) d (omega (arith, lt))))

pub all_push : {A : Type 0} (P : A → Type 0) (xs : List A) (x : A) → AllByRecursion P xs → P x → AllByRecursion P (xs ++ x ∷ [])
all_push P [] x each last = (last, tt)
all_push P (y ∷ ys) x each last = (each.0, all_push P ys x each.1 last)

pub all_at : {A : Type 0} (P : A → Type 0) (xs : List A) (i : ℕ) (d : A) → AllByRecursion P xs → i < length xs → P (get_or xs i d)
all_at P [] i d each lt = absurd (omega (arith, lt))
all_at P (x ∷ xs) zero d each lt = each.0
all_at P (x ∷ xs) (suc i) d each lt = all_at P xs i d each.1 (omega (arith, lt))

pub any_nowhere : {A : Type 0} (test : A → Bool) (xs : List A) → ((k : ℕ) (d : A) → k < length xs → test (get_or xs k d) ≡ false) → list_any test xs ≡ false
any_nowhere test [] each = refl
any_nowhere test (x ∷ xs) each = rw (each 0 x (omega arith)) (any_nowhere test xs (λ k d lt. each (suc k) d (omega (arith, lt))))

pub found_at : {A : Type 0} (test : A → Bool) (xs : List A) (i : ℕ) (d : A) → i < length xs → test (get_or xs i d) ≡ true → ((k : ℕ) → k < i → test (get_or xs k d) ≡ false) → find test xs ≡ Some (get_or xs i d)
found_at test [] i d lt here before = absurd (omega (arith, lt))
found_at test (x ∷ xs) zero d lt here before = rw here refl
found_at test (x ∷ xs) (suc i) d lt here before = rw (before 0 (omega arith)) (found_at test xs i d (omega (arith, lt)) here (λ k less. before (suc k) (omega (arith, less))))
