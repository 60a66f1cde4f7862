-- What holds at each moment, and of the calls that were made in between.
use Rattle.std.specs.Prelude.{◌≡◌, ℕ, ◌-◌, List, [], ◌∷◌, length, drop, Option, Some}
use Rattle.kms_host.specs.History.{History, then_call}
use Rattle.kms_host.specs.declared.call.Call.{Call}

-- the history with these calls more, the newest first
abbrev pub then_calls : History → List Call → History
then_calls h [] = h
then_calls h (c ∷ more) = then_call (then_calls h more) c

-- P holds after each of these calls, and before the first
abbrev pub AtEach : (List Call → Type 0) → List Call → Type 0
AtEach P [] = P []
AtEach P (c ∷ calls) = P (c ∷ calls) × AtEach P calls

-- P holds at each moment from was on to now
pub record Throughout (P : History → Type 0) (was now : History) : Type 0 where
  pub more : List Call
  pub extends : now ≡ then_calls was more
  pub each : AtEach (λ calls. P (then_calls was calls)) more

-- the calls of the first m moments, the newest first
abbrev pub by_moment : ℕ → List Call → List Call
by_moment m calls = drop (length calls - m) calls

-- the history as it was at a moment
abbrev pub until : ℕ → History → History
until m h = record { opening = h.opening; key_files = h.key_files; calls = by_moment m h.calls }

-- What is told after some calls was told before them too, and P holds of what was told then and of these calls, the
-- newest first. Nothing is said where the host doesn't tell.
pub record Since (before after : Option History) (P : History → List Call → Type 0) : Type 0 where
  pub told : (now : History) → after ≡ Some now
      → (was : History) × (calls : List Call) × (before ≡ Some was) × (now ≡ then_calls was calls) × P was calls
