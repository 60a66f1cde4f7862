-- What is among the rows of a list, before a change of the list and after it.
use Rattle.std.proofs.Common.{◌≡◌, ◌⊎◌, inl, inr, ℕ, zero, suc, ◌<◌, Bool, true, false, cond, List, [], ◌∷◌, ◌++◌, map, Option, Some, refl, sym, ap, subst, arith}
use Rattle.std.specs.Prelude.{filter, find, get_or, length}
use Rattle.std.specs.List.{AllByRecursion, Contains}
use Rattle.std.proofs.lemmas.List.Elements.{All-contains, All-contains_itself, All-filter, All-map, All-weaker, Contains-append_right}
use Rattle.kms_world.specs.Effect.{put_row}

pub here : {X : Type 0} (x : X) (xs : List X) → Contains (x ∷ xs) x
here x xs = (0, omega arith, refl)

pub behind : {X : Type 0} (x y : X) (xs : List X) → Contains xs y → Contains (x ∷ xs) y
behind x y xs is = Contains-append_right (x ∷ []) xs y is

-- of the places of a list the first, or one behind it
pub split : {X : Type 0} (x y : X) (xs : List X) → Contains (x ∷ xs) y → (x ≡ y) ⊎ Contains xs y
split {X} x y xs is = by is.0 is.1 is.2
  where
    by : (k : ℕ) → k < length (x ∷ xs) → get_or (x ∷ xs) k y ≡ y → (x ≡ y) ⊎ Contains xs y
    by zero lt e = inl e
    by (suc k) lt e = inr (k, omega (arith, lt), e)

pub none_among : {X : Type 0} (x : X) → Contains [] x → ⊥
none_among x is = let lt = is.1 in absurd (omega (arith, lt))

some_same : {X : Type 0} (x y : X) → Some x ≡ Some y → x ≡ y
some_same x y is = cc

-- ---- a row that is found

found_here : {X : Type 0} (b : Bool) (y x : X) (ys : List X) (other : Option X) → cond b (Some y) other ≡ Some x → (other ≡ Some x → Contains ys x) → Contains (y ∷ ys) x
found_here true y x ys other is rest = subst (Contains (y ∷ ys)) (some_same y x is) (here y ys)
found_here false y x ys other is rest = behind y x ys (rest is)

pub found_there : {X : Type 0} (test : X → Bool) (xs : List X) (x : X) → find test xs ≡ Some x → Contains xs x
found_there test [] x is = absurd cc
found_there test (y ∷ ys) x is = found_here (test y) y x ys (find test ys) is (found_there test ys x)

-- ---- rows that stay

pub from_filter : {X : Type 0} (keep : X → Bool) (xs : List X) (x : X) → Contains (filter keep xs) x → Contains xs x
from_filter keep xs x is = All-contains (Contains xs) (filter keep xs) x (All-filter keep (Contains xs) xs (All-contains_itself xs)) is

first_kept : {X : Type 0} (b : Bool) (x y : X) (rest : List X) → b ≡ true → x ≡ y → Contains (cond b (x ∷ rest) rest) y
first_kept true x y rest keeps is = subst (Contains (x ∷ rest)) is (here x rest)
first_kept false x y rest keeps is = absurd cc

later_kept : {X : Type 0} (b : Bool) (x y : X) (rest : List X) → Contains rest y → Contains (cond b (x ∷ rest) rest) y
later_kept true x y rest is = behind x y rest is
later_kept false x y rest is = is

pub to_filter : {X : Type 0} (keep : X → Bool) (xs : List X) (x : X) → keep x ≡ true → Contains xs x → Contains (filter keep xs) x
to_filter {X} keep [] x keeps is = absurd (none_among x is)
to_filter {X} keep (y ∷ ys) x keeps is = elim (split y x ys is) [
  | inl same ↦ first_kept (keep y) y x (filter keep ys) (subst (λ z. keep z ≡ true) (sym same) keeps) same
  | inr later ↦ later_kept (keep y) y x (filter keep ys) (to_filter keep ys x keeps later)
]

-- ---- rows that are changed

pub from_map : {X : Type 0} (f : X → X) (xs : List X) (y : X) → Contains (map f xs) y → (x : X) × Contains xs x × (y ≡ f x)
from_map {X} f xs y is =
    All-contains (λ z. (x : X) × Contains xs x × (z ≡ f x)) (map f xs) y
    (All-map (λ z. (x : X) × Contains xs x × (z ≡ f x)) f xs (All-weaker (Contains xs) (λ x. (w : X) × Contains xs w × (f x ≡ f w)) (λ x among. (x, among, refl)) xs (All-contains_itself xs))) is

pub to_map : {X Y : Type 0} (f : X → Y) (xs : List X) (x : X) → Contains xs x → Contains (map f xs) (f x)
to_map f [] x is = absurd (none_among x is)
to_map f (y ∷ ys) x is = elim (split y x ys is) [
  | inl same ↦ subst (Contains (f y ∷ map f ys)) (ap f same) (here (f y) (map f ys))
  | inr later ↦ behind (f y) (f x) (map f ys) (to_map f ys x later)
]

-- a row that replaces none goes last
pub put_last : {X : Type 0} (test : X → Bool) (row : X) (xs : List X) → AllByRecursion (λ x. test x ≡ false) xs → put_row test row xs ≡ xs ++ row ∷ []
put_last test row [] none = refl
put_last test row (x ∷ xs) none = rw (none.0) (ap (λ rest. x ∷ rest) (put_last test row xs none.1))
