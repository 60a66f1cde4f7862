use Rattle.std.proofs.Common.{◌≡◌, ℕ, ◌+◌, ◌-◌, ◌^◌, ◌≤◌, min, drop}
use Rattle.kms_store.specs.Stands.{HaveSteps}
use Rattle.kms_store.proofs.steps.steps_after.Given as goal

-- what is counted, and what is left to count
abbrev pub invariant-loop-bytes : goal.invariant-loop-bytes
invariant-loop-bytes l = (l.steps ≤ 2 ^ 64 - 1) × ((n : ℕ) → HaveSteps l.fn.bodies n → (m : ℕ) × HaveSteps (drop l.bytes-index l.fn.bodies) m × (min (l.steps + m) (2 ^ 64 - 1) ≡ min (l.fn.first + n) (2 ^ 64 - 1)))
