-- A rule of bytes is proved by a test that computes it at each of them.
use Rattle.std.proofs.Common.{◌≡◌, ℕ, zero, suc, ◌<◌, Bool, true, false, ◌&&◌, ◌==◌, nat_lt, arith, refl, subst, sym, inl, inr}
use Rattle.std.proofs.lemmas.Bool.{eqb-true, cases_eq}

-- the test passes at each number below n
abbrev pub all_below : ℕ → (ℕ → Bool) → Bool
all_below zero test = true
all_below (suc n) test = test n && all_below n test

left : (a b : Bool) → (a && b) ≡ true → a ≡ true
left true b e = refl
left false b e = e

right : (a b : Bool) → (a && b) ≡ true → b ≡ true
right true b e = e
right false b e = cc

pub all_below-at : (n : ℕ) (test : ℕ → Bool) → all_below n test ≡ true → (i : ℕ) → i < n → test i ≡ true
all_below-at zero test e i h = absurd (omega arith)
all_below-at (suc n) test e i h =
    elim (cases_eq i n) [
      | inl same ↦ subst (λ k. test k ≡ true) (sym same) (left (test n) (all_below n test) e)
      | inr other ↦ all_below-at n test (right (test n) (all_below n test) e) i (omega arith)
    ]

-- two functions of a byte are one
pub same_below : (n : ℕ) (f g : ℕ → ℕ) → all_below n (λ i. f i == g i) ≡ true → (i : ℕ) → i < n → f i ≡ g i
same_below n f g e i h = eqb-true (f i) (g i) (all_below-at n (λ j. f j == g j) e i h)

less : (a b : ℕ) → nat_lt a b ≡ true → a < b
less a b e = grind arith

-- a function of a byte stays below a bound
pub less_below : (n bound : ℕ) (f : ℕ → ℕ) → all_below n (λ i. nat_lt (f i) bound) ≡ true → (i : ℕ) → i < n → f i < bound
less_below n bound f e i h = less (f i) bound (all_below-at n (λ j. nat_lt (f j) bound) e i h)
