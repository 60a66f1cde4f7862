-- Values that were found.
use Rattle.std.proofs.Common.{◌≡◌, ℕ, zero, suc, ◌+◌, ◌<◌, ◌≤◌, List, [], ◌∷◌, ◌++◌, length, get_or, take, drop, true, false, cond, Option, Some, None, is_some, refl, sym, ap, ◌∙◌, arith, length-append, append-nil}
use Rattle.std.proofs.lemmas.List.{take-append-drop}
use Rattle.std.specs.Borrow.{Bor}
use Rattle.std.specs.Str.{str_eq_ignore_ascii_case}
use Rattle.kms_http.specs.Fields.{Pair, values_of}

abbrev pub listed : Option (Bor (List ℕ)) → List (List ℕ)
listed None = []
listed (Some v) = v.now ∷ []

-- the value of a field that has the name
abbrev pub own : List ℕ → Pair → List (List ℕ)
own name p = cond (str_eq_ignore_ascii_case p.0 name) (p.1 ∷ []) []

pub values-append : (name : List ℕ) (xs ys : List Pair) → values_of name (xs ++ ys) ≡ values_of name xs ++ values_of name ys
values-append name [] ys = refl
values-append name (x ∷ xs) ys =
    elim (str_eq_ignore_ascii_case x.0 name) as (λ b. cond b (x.1 ∷ values_of name (xs ++ ys)) (values_of name (xs ++ ys)) ≡ cond b (x.1 ∷ values_of name xs) (values_of name xs) ++ values_of name ys)
    [ true ↦ ap (λ t. x.1 ∷ t) (values-append name xs ys) | false ↦ values-append name xs ys ]

pub values-more : (name : List ℕ) (xs : List Pair) (i : ℕ) (d : Pair) → i < length xs
    → values_of name (take (suc i) xs) ≡ values_of name (take i xs) ++ own name (get_or xs i d)
values-more name [] i d below = absurd (omega arith)
values-more name (x ∷ xs) zero d below = refl
values-more name (x ∷ xs) (suc i) d below =
    let rest = values-more name xs i d (omega arith) in
    elim (str_eq_ignore_ascii_case x.0 name) as (λ b. cond b (x.1 ∷ values_of name (take (suc i) xs)) (values_of name (take (suc i) xs)) ≡ cond b (x.1 ∷ values_of name (take i xs)) (values_of name (take i xs)) ++ own name (get_or xs i d))
    [ true ↦ ap (λ t. x.1 ∷ t) rest | false ↦ rest ]

pub at-least : (name : List ℕ) (xs : List Pair) (i : ℕ) → length (values_of name (take i xs)) ≤ length (values_of name xs)
at-least name xs i =
    let whole : values_of name xs ≡ values_of name (take i xs) ++ values_of name (drop i xs) =
    ap (λ t. values_of name t) (sym (take-append-drop i xs)) ∙ values-append name (take i xs) (drop i xs) in
    omega (arith, ap length whole, length-append (values_of name (take i xs)) (values_of name (drop i xs)))

pub more-no : (name : List ℕ) (xs : List Pair) (i : ℕ) (d : Pair) → i < length xs → str_eq_ignore_ascii_case (get_or xs i d).0 name ≡ false
    → values_of name (take (i + 1) xs) ≡ values_of name (take i xs)
more-no name xs i d below differs =
    let next : i + 1 ≡ suc i = omega arith in
    let own_is : own name (get_or xs i d) ≡ [] = rw differs refl in
    ap (λ n. values_of name (take n xs)) next ∙ values-more name xs i d below ∙ ap (λ t. values_of name (take i xs) ++ t) own_is ∙ append-nil (values_of name (take i xs))

pub more-yes : (name : List ℕ) (xs : List Pair) (i : ℕ) (d : Pair) → i < length xs → str_eq_ignore_ascii_case (get_or xs i d).0 name ≡ true
    → values_of name (take (i + 1) xs) ≡ values_of name (take i xs) ++ (get_or xs i d).1 ∷ []
more-yes name xs i d below same =
    let next : i + 1 ≡ suc i = omega arith in
    let own_is : own name (get_or xs i d) ≡ (get_or xs i d).1 ∷ [] = rw same refl in
    ap (λ n. values_of name (take n xs)) next ∙ values-more name xs i d below ∙ ap (λ t. values_of name (take i xs) ++ t) own_is

pub unfound : (o : Option (Bor (List ℕ))) → is_some o ≡ false → listed o ≡ []
unfound None e = refl
unfound (Some v) e = absurd (cc)

pub found-length : (o : Option (Bor (List ℕ))) → is_some o ≡ true → length (listed o) ≡ 1
found-length None e = absurd (cc)
found-length (Some v) e = refl
