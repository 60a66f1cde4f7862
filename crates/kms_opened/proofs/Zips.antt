-- Lists side by side.
use Rattle.std.proofs.Common.{◌≡◌, Bool, true, false, cond, List, [], ◌∷◌, ◌++◌, map, Option, Some, refl, subst}
use Rattle.std.specs.Prelude.{find, filter}
use Rattle.std.specs.List.{AllByRecursion, AllZip}

pub all_push : {A : Type 0} (P : A → Type 0) (xs : List A) (x : A) → AllByRecursion P xs → P x → AllByRecursion P (xs ++ x ∷ [])
all_push {A} P [] x each last = (last, tt)
all_push {A} P (y ∷ ys) x each last = (each.0, all_push P ys x each.1 last)

pub all_map : {A : Type 0} (P : A → Type 0) (f : A → A) → ((x : A) → P x → P (f x)) → (xs : List A) → AllByRecursion P xs → AllByRecursion P (map f xs)
all_map {A} P f step [] each = tt
all_map {A} P f step (x ∷ xs) each = (step x each.0, all_map P f step xs each.1)

pub all_any : {A : Type 0} (xs : List A) → AllByRecursion (λ _. Unit {0}) xs
all_any {A} [] = tt
all_any {A} (x ∷ xs) = (tt, all_any xs)

-- ---- side by side

pub zip_push : {A B : Type 0} (R : A → B → Type 0) (x : A) (y : B) → R x y → (xs : List A) (ys : List B) → AllZip R xs ys → AllZip R (xs ++ x ∷ []) (ys ++ y ∷ [])
zip_push {A} {B} R x y last [] [] each = (last, tt)
zip_push {A} {B} R x y last [] (b ∷ ys) each = absurd each
zip_push {A} {B} R x y last (a ∷ xs) [] each = absurd each
zip_push {A} {B} R x y last (a ∷ xs) (b ∷ ys) each = (each.0, zip_push R x y last xs ys each.1)

pub zip_to : {A B : Type 0} (P : A → Type 0) (R S : A → B → Type 0) → ((x : A) (y : B) → P x → R x y → S x y) → (xs : List A) (ys : List B) → AllByRecursion P xs → AllZip R xs ys → AllZip S xs ys
zip_to {A} {B} P R S step [] [] p each = tt
zip_to {A} {B} P R S step [] (b ∷ ys) p each = absurd each
zip_to {A} {B} P R S step (a ∷ xs) [] p each = absurd each
zip_to {A} {B} P R S step (a ∷ xs) (b ∷ ys) p each = (step a b p.0 each.0, zip_to P R S step xs ys p.1 each.1)

pub zip_map : {A B : Type 0} (P : A → Type 0) (R S : A → B → Type 0) (f : A → A) (g : B → B) → ((x : A) (y : B) → P x → R x y → S (f x) (g y)) → (xs : List A) (ys : List B) → AllByRecursion P xs → AllZip R xs ys → AllZip S (map f xs) (map g ys)
zip_map {A} {B} P R S f g step [] [] p each = tt
zip_map {A} {B} P R S f g step [] (b ∷ ys) p each = absurd each
zip_map {A} {B} P R S f g step (a ∷ xs) [] p each = absurd each
zip_map {A} {B} P R S f g step (a ∷ xs) (b ∷ ys) p each = (step a b p.0 each.0, zip_map P R S f g step xs ys p.1 each.1)

zip_kept : {A B : Type 0} (S : A → B → Type 0) (b c : Bool) (x : A) (y : B) (xs : List A) (ys : List B) → b ≡ c → (b ≡ true → S x y) → AllZip S xs ys → AllZip S (cond b (x ∷ xs) xs) (cond c (y ∷ ys) ys)
zip_kept S true true x y xs ys e first rest = (first refl, rest)
zip_kept S true false x y xs ys e first rest = absurd cc
zip_kept S false true x y xs ys e first rest = absurd cc
zip_kept S false false x y xs ys e first rest = rest

pub zip_filter : {A B : Type 0} (R S : A → B → Type 0) (p : A → Bool) (q : B → Bool) → ((x : A) (y : B) → R x y → p x ≡ q y) → ((x : A) (y : B) → p x ≡ true → R x y → S x y) → (xs : List A) (ys : List B) → AllZip R xs ys → AllZip S (filter p xs) (filter q ys)
zip_filter {A} {B} R S p q same step [] [] each = tt
zip_filter {A} {B} R S p q same step [] (b ∷ ys) each = absurd each
zip_filter {A} {B} R S p q same step (a ∷ xs) [] each = absurd each
zip_filter {A} {B} R S p q same step (a ∷ xs) (b ∷ ys) each =
    zip_kept S (p a) (q b) a b (filter p xs) (filter q ys) (same a b each.0) (λ e. step a b e each.0) (zip_filter R S p q same step xs ys each.1)

-- ---- look-ups

found_passes : {A : Type 0} (test : A → Bool) (b : Bool) (y x : A) (o : Option A) → test y ≡ b → (o ≡ Some x → test x ≡ true) → cond b (Some y) o ≡ Some x → test x ≡ true
found_passes {A} test true y x o t step e = let same : y ≡ x = cc in subst (λ (z : A). test z ≡ true) same t
found_passes {A} test false y x o t step e = step e

pub find_passes : {A : Type 0} (test : A → Bool) (xs : List A) (x : A) → find test xs ≡ Some x → test x ≡ true
find_passes {A} test [] x e = absurd cc
find_passes {A} test (y ∷ ys) x e = found_passes test (test y) y x (find test ys) refl (find_passes test ys x) e
