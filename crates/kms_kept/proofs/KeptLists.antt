-- Look-ups in lists that are changed.
use Rattle.std.proofs.Common.{◌≡◌, Bool, true, false, cond, List, [], ◌∷◌, ◌++◌, map, Option, Some, refl}
use Rattle.std.specs.Prelude.{find, filter, option_map}
use Rattle.std.specs.List.{AllByRecursion, list_all}
use Rattle.std.proofs.lemmas.Bool.{and_parts}
use Rattle.kms_world.specs.Effect.{change_rows}

all_kept : {A : Type 0} (P : A → Type 0) (b : Bool) (x : A) (xs : List A) → P x → AllByRecursion P xs → AllByRecursion P (cond b (x ∷ xs) xs)
all_kept P true x xs first rest = (first, rest)
all_kept P false x xs first rest = rest

pub all_filter : {A : Type 0} (P : A → Type 0) (keep : A → Bool) (xs : List A) → AllByRecursion P xs → AllByRecursion P (filter keep xs)
all_filter {A} P keep [] each = tt
all_filter {A} P keep (x ∷ xs) each = all_kept P (keep x) x (filter keep xs) each.0 (all_filter P keep xs each.1)

pub all_passed : {A : Type 0} (test : A → Bool) (xs : List A) → list_all test xs ≡ true → AllByRecursion (λ x. test x ≡ true) xs
all_passed {A} test [] e = tt
all_passed {A} test (x ∷ xs) e = let p = and_parts (test x) (list_all test xs) e in (p.0, all_passed test xs p.1)

pub all_to : {A : Type 0} (P Q : A → Type 0) → ((x : A) → P x → Q x) → (xs : List A) → AllByRecursion P xs → AllByRecursion Q xs
all_to {A} P Q step [] each = tt
all_to {A} P Q step (x ∷ xs) each = (step x each.0, all_to P Q step xs each.1)

-- ---- look-ups

found_step : {A : Type 0} (b : Bool) (y x : A) (o p : Option A) → (o ≡ Some x → p ≡ Some x) → cond b (Some y) o ≡ Some x → cond b (Some y) p ≡ Some x
found_step true y x o p step e = e
found_step false y x o p step e = step e

pub find_append : {A : Type 0} (test : A → Bool) (xs more : List A) (x : A) → find test xs ≡ Some x → find test (xs ++ more) ≡ Some x
find_append {A} test [] more x e = absurd cc
find_append {A} test (y ∷ ys) more x e = found_step (test y) y x (find test ys) (find test (ys ++ more)) (find_append test ys more x) e

map_step : {A : Type 0} (g : A → A) (b c : Bool) (y : A) (o p : Option A) → b ≡ c → o ≡ option_map g p → cond b (Some (g y)) o ≡ option_map g (cond c (Some y) p)
map_step g true true y o p e h = refl
map_step g true false y o p e h = absurd cc
map_step g false true y o p e h = absurd cc
map_step g false false y o p e h = h

pub find_map : {A : Type 0} (test : A → Bool) (g : A → A) → ((x : A) → test (g x) ≡ test x) → (xs : List A) → find test (map g xs) ≡ option_map g (find test xs)
find_map {A} test g same [] = refl
find_map {A} test g same (y ∷ ys) = map_step g (test (g y)) (test y) y (find test (map g ys)) (find test ys) (same y) (find_map test g same ys)

filter_step : {A : Type 0} (test : A → Bool) (b c : Bool) (y x : A) (ys : List A) (o : Option A) → test y ≡ b → (b ≡ true → c ≡ true) → (o ≡ Some x → find test ys ≡ Some x) → cond b (Some y) o ≡ Some x → find test (cond c (y ∷ ys) ys) ≡ Some x
filter_step test true true y x ys o t keep step e = rw t e
filter_step test true false y x ys o t keep step e = let h : false ≡ true = keep refl in absurd cc
filter_step test false true y x ys o t keep step e = rw t (step e)
filter_step test false false y x ys o t keep step e = step e

pub find_filter : {A : Type 0} (test keep : A → Bool) → ((x : A) → test x ≡ true → keep x ≡ true) → (xs : List A) (x : A) → find test xs ≡ Some x → find test (filter keep xs) ≡ Some x
find_filter {A} test keep kept [] x e = absurd cc
find_filter {A} test keep kept (y ∷ ys) x e =
    filter_step test (test y) (keep y) y x (filter keep ys) (find test ys) refl (kept y) (find_filter test keep kept ys x) e

-- ---- rows that are changed

one_changed : {X : Type 0} (P : X → Type 0) (b : Bool) (f : X → X) (x : X) → (b ≡ true → P (f x)) → P x → P (cond b (f x) x)
one_changed P true f x new old = new refl
one_changed P false f x new old = old

-- where what is known of the rows that pass the test makes what holds of them hold after the change
pub all_changed : {X : Type 0} (P Q : X → Type 0) (test : X → Bool) (f : X → X) → ((x : X) → test x ≡ true → Q x → P x → P (f x)) → (xs : List X) → AllByRecursion (λ x. test x ≡ true → Q x) xs → AllByRecursion P xs → AllByRecursion P (change_rows test f xs)
all_changed {X} P Q test f step [] known each = tt
all_changed {X} P Q test f step (x ∷ xs) known each = (one_changed P (test x) f x (λ t. step x t (known.0 t) each.0) each.0, all_changed P Q test f step xs known.1 each.1)

pub all_rows : {X : Type 0} (P : X → Type 0) (test : X → Bool) (f : X → X) → ((x : X) → P x → P (f x)) → (xs : List X) → AllByRecursion P xs → AllByRecursion P (change_rows test f xs)
all_rows {X} P test f step [] each = tt
all_rows {X} P test f step (x ∷ xs) each = (one_changed P (test x) f x (λ t. step x each.0) each.0, all_rows P test f step xs each.1)
