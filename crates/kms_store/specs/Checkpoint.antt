-- What putting a snapshot in the place of a store's records does, at each moment.
use Rattle.std.specs.Prelude.{◌≡◌, ◌⊎◌, ℕ, ◌+◌, ◌-◌, ◌*◌, ◌^◌, ◌≤◌, min, length, List, Result, OnOk, if◌then◌else◌, nat_lt}
use Rattle.kms_host.specs.Disk.{IsImage}
use Rattle.kms_host.specs.History.{History}
use Rattle.kms_host.specs.Moment.{Throughout}
use Rattle.kms_host.specs.Store.{others, syncs}
use Rattle.kms_kept.specs.Kept.{Kept}
use Rattle.kms_journal.specs.Cuts.{cuts}
use Rattle.kms_journal.specs.Device.{IsQuietStore}
use Rattle.kms_journal.specs.Position.{Position, IsPlaced}
use Rattle.kms_journal.specs.Raised.{IsRaised}
use Rattle.kms_journal.specs.Standing.{Standing}
use Rattle.kms_store.specs.Snapshot.{snapshot_after}
use Rattle.kms_store.specs.Stands.{KeptOf, HasSteps, StandFor}

-- a count of so many steps, which stops at the end of 64 bits
abbrev pub IsCountOf : (count steps : ℕ) → Type 0
IsCountOf count steps = count ≡ min steps (2 ^ 64 - 1)

-- The files of this journal stand for this, after so many steps.
pub record StandsAt (kept : Kept) (journal : Position) (h : History) (steps : ℕ) : Type 0 where
  pub standing : Standing
  pub placed : IsPlaced journal h standing
  pub keeps : KeptOf standing kept
  pub counted : HasSteps standing steps

-- how many syncs a checkpoint takes at most, which is made where the records take more bytes than this
abbrev pub checkpoint_syncs : (limit : ℕ) → Position → ℕ
checkpoint_syncs limit journal = if nat_lt limit (journal.end - journal.start) then 3 else 0

-- The records take so many bytes at most, unless no checkpoint can be made: the generation or the number of steps is 2^63 or
-- more, or the snapshot has 2^64 bytes or more.
abbrev pub HasFewRecords : (limit : ℕ) → Kept → (steps : ℕ) → Position → Type 0
HasFewRecords limit kept steps journal =
    (journal.end - journal.start ≤ limit) ⊎ ((2 ^ 63 ≤ journal.generation) ⊎ ((2 ^ 63 ≤ steps) ⊎ (2 ^ 64 ≤ length (snapshot_after steps kept).bytes)))

-- Each crash image stands for this, after so many steps, and its generation is above this one by the cuts. Nothing was called
-- but on files, and for each cut there were three syncs at most.
pub record IsStill (kept : Kept) (steps most generation : ℕ) (was h : History) : Type 0 where
  pub images : IsQuietStore was → (image : List ℕ × List ℕ) → IsImage h image → StandFor image kept steps
  pub raised : IsQuietStore was → (image : List ℕ × List ℕ) → IsImage h image → IsRaised generation was h image
  pub others : others h ≡ others was
  pub paid : syncs h.calls + 3 * cuts was.calls ≤ syncs was.calls + 3 * cuts h.calls
  pub syncs : syncs h.calls ≤ syncs was.calls + most

-- From an Ok on the files of the journal, which stands here then, stand for it too, and each cut began a generation.
pub record TurnsOver {T E : Type 0} (kept : Kept) (steps most : ℕ) (before after : Position) (result : Result T E) (was now : History) : Type 0 where
  pub throughout : Throughout (IsStill kept steps most before.generation was) was now
  pub done : OnOk result (StandsAt kept after now steps)
  pub raised : OnOk result (after.generation + cuts was.calls ≡ before.generation + cuts now.calls)
  pub quiet : OnOk result (IsQuietStore was → IsQuietStore now)
