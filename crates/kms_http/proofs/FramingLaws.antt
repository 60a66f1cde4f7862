-- Digits and elements.
use Rattle.std.proofs.Common.{◌≡◌, ℕ, zero, suc, ◌+◌, ◌-◌, ◌*◌, ◌<◌, min, List, [], ◌∷◌, length, take, get_or, refl, arith}
use Rattle.kms_http.specs.Framing.{number}

-- one digit more
pub number-more : (v : ℕ) (xs : List ℕ) (i : ℕ) → i < length xs → number v (take (suc i) xs) ≡ number v (take i xs) * 10 + (get_or xs i 0 - 48)
number-more v [] i below = absurd (omega arith)
number-more v (x ∷ xs) zero below = refl
number-more v (x ∷ xs) (suc i) below = number-more (v * 10 + (x - 48)) xs i (omega arith)

-- a number that is capped on the way is capped at the end
pub number-capped : (n d : ℕ) → min (min n 65537 * 10 + d) 65537 ≡ min (n * 10 + d) 65537
number-capped n d = omega arith
