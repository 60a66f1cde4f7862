-- What settling does to a store, at each moment.
use Rattle.std.specs.Prelude.{◌≡◌, ◌⊎◌, ℕ, ◌+◌, ◌*◌, ◌≤◌, ◌++◌, length, List, None, Result, OnOk}
use Rattle.kms_host.specs.Disk.{IsImage}
use Rattle.kms_host.specs.History.{History}
use Rattle.kms_host.specs.Moment.{Throughout}
use Rattle.kms_host.specs.Store.{others, syncs}
use Rattle.kms_record.specs.Fields.{u32_bytes}
use Rattle.kms_kept.specs.Kept.{Kept}
use Rattle.kms_journal.specs.Commit.{frame}
use Rattle.kms_journal.specs.Cuts.{cuts}
use Rattle.kms_journal.specs.Device.{IsQuietStore}
use Rattle.kms_journal.specs.Position.{Position, IsPlaced}
use Rattle.kms_journal.specs.Raised.{IsRaised}
use Rattle.kms_journal.specs.Standing.{Standing}
use Rattle.kms_store.specs.Checkpoint.{IsCountOf, checkpoint_syncs}
use Rattle.kms_store.specs.Staged.{Staging, StagingLeads}
use Rattle.kms_store.specs.Stands.{KeptOf, HasSteps, StandFor}
use Rattle.kms_store.specs.Store.{Stored}

-- The files of this journal stand for what was settled, after so many steps; the staged steps lead from it to what is kept, and
-- the store counts all these steps.
pub record IsOpened (store : Stored) (journal : Position) (h : History) (settled : Kept) (steps : ℕ) : Type 0 where
  pub standing : Standing
  pub placed : IsPlaced journal h standing
  pub keeps : KeptOf standing settled
  pub counted : HasSteps standing steps
  pub leads : StagingLeads store.staging settled store.kept
  pub total : IsCountOf store.steps (steps + store.staging.count)

-- the record of the staged steps, framed
abbrev pub staged_record : Staging → List ℕ
staged_record staging = frame (u32_bytes staging.count ++ staging.steps)

-- where the journal stands once it has that record
abbrev pub committed : Position → Staging → Position
committed journal staging = record journal { end = journal.end + length (staged_record staging); chain = None }

-- How many syncs settling takes at most: two for the record, and three more where the records take more bytes than this then.
abbrev pub settle_syncs : (limit : ℕ) → Position → Staging → ℕ
settle_syncs limit journal staging = 2 + checkpoint_syncs limit (committed journal staging)

-- Each crash image stands for what was settled, or for that and all staged steps, and its generation is above this one by the
-- cuts. Nothing was called but on files, and there were so many syncs at most: two, and three for each cut.
pub record IsSettledOrAll (store : Stored) (generation most : ℕ) (settled : Kept) (steps : ℕ) (was h : History) : Type 0 where
  pub images : IsQuietStore was → (image : List ℕ × List ℕ) → IsImage h image → StandFor image settled steps ⊎ StandFor image store.kept (steps + store.staging.count)
  pub raised : IsQuietStore was → (image : List ℕ × List ℕ) → IsImage h image → IsRaised generation was h image
  pub others : others h ≡ others was
  pub paid : syncs h.calls + 3 * cuts was.calls ≤ syncs was.calls + 2 + 3 * cuts h.calls
  pub syncs : syncs h.calls ≤ syncs was.calls + most

-- From an Ok on it is that and all staged steps, none is staged, and each cut began a generation.
pub record Settles {T E : Type 0} (old new : Stored) (most : ℕ) (before after : Position) (result : Result T E) (settled : Kept) (steps : ℕ) (was now : History) : Type 0 where
  pub throughout : Throughout (IsSettledOrAll old before.generation most settled steps was) was now
  pub done : OnOk result (IsOpened new after now old.kept (steps + old.staging.count))
  pub raised : OnOk result (after.generation + cuts was.calls ≡ before.generation + cuts now.calls)
  pub quiet : OnOk result (IsQuietStore was → IsQuietStore now)
