-- Texts at the front of bytes.
use Rattle.std.proofs.Common.{◌≡◌, ℕ, ◌≤◌, List, [], ◌∷◌, ◌++◌, length, true, false, is_some, nat_eq, cond, Some, None, refl, ap, arith}
use Rattle.kms_http.specs.HeadEnd.{past}

pub some_same : {A : Type 0} (x y : A) → Some x ≡ Some y → x ≡ y
some_same x y e = cc

pub past_length : (xs bytes : List ℕ) → is_some (past xs bytes) ≡ true → length xs ≤ length bytes
unfolding past
past_length [] bytes e = omega arith
past_length (x ∷ xs) [] e = absurd (cc)
past_length (x ∷ xs) (y ∷ ys) e =
    elim (nat_eq x y) as (λ b. is_some (cond b (past xs ys) None) ≡ true → length (x ∷ xs) ≤ length (y ∷ ys))
    [ true ↦ λ h. omega (arith, past_length xs ys h) | false ↦ λ h. absurd (cc) ] e

pub past-more : (xs bytes more rest : List ℕ) → past xs bytes ≡ Some rest → past xs (bytes ++ more) ≡ Some (rest ++ more)
unfolding past
past-more [] bytes more rest e = ap (λ r. Some (r ++ more)) (some_same bytes rest e)
past-more (x ∷ xs) [] more rest e = absurd (cc)
past-more (x ∷ xs) (y ∷ ys) more rest e =
    elim (nat_eq x y) as (λ b. cond b (past xs ys) None ≡ Some rest → cond b (past xs (ys ++ more)) None ≡ Some (rest ++ more))
    [ true ↦ λ h. past-more xs ys more rest h | false ↦ λ h. absurd (cc) ] e

pub past-none : (xs bytes more : List ℕ) → length xs ≤ length bytes → past xs bytes ≡ None → past xs (bytes ++ more) ≡ None
unfolding past
past-none [] bytes more long e = absurd (cc)
past-none (x ∷ xs) [] more long e = absurd (omega arith)
past-none (x ∷ xs) (y ∷ ys) more long e =
    elim (nat_eq x y) as (λ b. cond b (past xs ys) None ≡ None → cond b (past xs (ys ++ more)) None ≡ None)
    [ true ↦ λ h. past-none xs ys more (omega arith) h | false ↦ λ h. refl ] e
