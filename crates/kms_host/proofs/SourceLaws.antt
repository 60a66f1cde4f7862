-- What comes on each line, after a take.
use Rattle.std.proofs.Common.{◌≡◌, ℕ, zero, suc, ◌<◌, ◌≤◌, List, [], ◌∷◌, length, set, get_or, refl, ap, arith}
use Rattle.kms_host.specs.Memory.{Source, present, advanced, present_on, advanced_on}

pub present_at : (line : ℕ) (lines : List Source) (d : Source) → line < length lines → present_on line lines ≡ present (get_or lines line d)
present_at line [] d within = absurd (omega (arith, within))
present_at zero (s ∷ lines) d within = refl
present_at (suc line) (s ∷ lines) d within = present_at line lines d (omega (arith, within))

pub advanced_at : (line n : ℕ) (lines : List Source) (d : Source) → line < length lines → advanced_on line n lines ≡ set lines line (advanced n (get_or lines line d))
advanced_at line n [] d within = absurd (omega (arith, within))
advanced_at zero n (s ∷ lines) d within = refl
advanced_at (suc line) n (s ∷ lines) d within = ap (λ (l : List Source). s ∷ l) (advanced_at line n lines d (omega (arith, within)))

pub present_past : (line : ℕ) (lines : List Source) → length lines ≤ line → present_on line lines ≡ []
present_past line [] past = refl
present_past zero (s ∷ lines) past = absurd (omega (arith, past))
present_past (suc line) (s ∷ lines) past = present_past line lines (omega (arith, past))

pub advanced_past : (line n : ℕ) (lines : List Source) → length lines ≤ line → advanced_on line n lines ≡ lines
advanced_past line n [] past = refl
advanced_past zero n (s ∷ lines) past = absurd (omega (arith, past))
advanced_past (suc line) n (s ∷ lines) past = ap (λ (l : List Source). s ∷ l) (advanced_past line n lines (omega (arith, past)))
