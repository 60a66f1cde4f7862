-- What contracts see of a store.
use Rattle.std.specs.Prelude.{◌≡◌, ℕ, ◌≤◌, length}
use Rattle.kms_record.specs.Grammar.{IsStep, step_bytes}
use Rattle.kms_kept.specs.Kept.{Kept}
use Rattle.kms_store.specs.ReadyStep.{TaggedStep}
use Rattle.kms_store.specs.Staged.{Staging}

-- What is kept with all staged steps, these, the number of all steps since the store was created, 2^64 - 1 at most, and for how
-- many changes more there is memory.
pub record Stored : Type 0 where
  pub kept : Kept
  pub staging : Staging
  pub steps : ℕ
  pub spare : ℕ

-- The step is the one that was reserved last: all memory that it needs was taken, and it is spelled.
pub record IsReserved (store : Stored) (step : TaggedStep) : Type 0 where
  pub tag : step.tag ≡ store.kept.state.tag
  pub admitted : IsStep step.changes
  pub spelled : store.staging.reserved ≡ step_bytes step.changes
  pub spare : length step.changes ≤ store.spare
