-- What a stop leaves of the store.
use Rattle.std.specs.Prelude.{◌≡◌, ℕ, ◌+◌, ◌≤◌, ◌<◌, List, length, take, true, false}
use Rattle.kms_host.specs.Disk.{IsImage}
use Rattle.kms_host.specs.Line.{sent}
use Rattle.kms_host.specs.declared.call.Call.{Call}
use Rattle.kms_journal.specs.Device.{IsQuietStore}
use Rattle.kms_core.specs.Stands.{Stands}
use Rattle.kms_model.specs.Course.{Mark}
use Rattle.kms_serve.specs.Batches.{is_settled}
use Rattle.kms_serve.specs.Events.{LineEvent, events}
use Rattle.kms_serve.specs.Plan.{replies_on_lines}
use Rattle.kms_serve.specs.Replies.{course_by, steps_by, replies, answered}
use Rattle.kms_serve.specs.RunStart.{RunStart, history}
use Rattle.kms_serve.specs.StoreCalls.{store_failed}

-- the files stand for the state after these events of the run, and have the steps that those make
pub record KeepsAfter (start : RunStart) (marks : List Mark) (es : List LineEvent) (image : List ℕ × List ℕ) : Type 0 where
  pub stands : Stands start.masters image (course_by start.first es marks).state (start.steps + steps_by start.first es marks)

-- The files keep the state after the first events of the run, so many. Each event that was acknowledged, so that a byte of its
-- reply was sent, and each before it, is held: if more was sent on a line than the replies there to the first k events, the
-- files have the steps of the first k + 1 at least. Where a call of the store failed, the newest batch isn't among them: what is
-- sent for it is the fault. Where the command has no lines, all steps are held once a byte of its output was sent. While no
-- batch is answered or settled, all steps are.
pub record Holds (start : RunStart) (marks : List Mark) (calls : List Call) (image : List ℕ × List ℕ) : Type 0 where
  pub count : ℕ
  pub within : count ≤ length (events start.plan calls)
  pub keeps : KeepsAfter start marks (take count (events start.plan calls)) image
  pub acknowledged : replies_on_lines start.plan.command ≡ true → (line k : ℕ)
      → length (replies line start.plan.endpoint start.first (take k (answered start.plan calls)) marks) < length (sent line calls)
      → steps_by start.first (take (k + 1) (answered start.plan calls)) marks ≤ steps_by start.first (take count (events start.plan calls)) marks
  pub shown : replies_on_lines start.plan.command ≡ false → 0 < length (sent 0 calls)
      → steps_by start.first (events start.plan calls) marks ≤ steps_by start.first (take count (events start.plan calls)) marks
  pub whole : is_settled calls ≡ true → store_failed calls ≡ false
      → steps_by start.first (events start.plan calls) marks ≤ steps_by start.first (take count (events start.plan calls)) marks

-- So do all files that a stop may leave, if nothing was pending when the run began.
pub record IsSafe (start : RunStart) (marks : List Mark) (calls : List Call) : Type 0 where
  pub images : IsQuietStore start.was → (image : List ℕ × List ℕ) → IsImage (history start calls) image → Holds start marks calls image
