-- What holds at each moment of a run.
use Rattle.std.specs.Prelude.{◌≡◌, ℕ, ◌+◌, ◌*◌, ◌≤◌, List, [], ◌++◌, length}
use Rattle.kms_host.specs.Line.{sent, times, IsStill}
use Rattle.kms_host.specs.Store.{syncs}
use Rattle.kms_host.specs.declared.call.Call.{Call}
use Rattle.kms_model.specs.Course.{Mark}
use Rattle.kms_serve.specs.Allowed.{InTurn}
use Rattle.kms_serve.specs.Batches.{settles}
use Rattle.kms_serve.specs.Crash.{IsSafe}
use Rattle.kms_serve.specs.Events.{events, requests}
use Rattle.kms_serve.specs.Opening.{IsAsBefore}
use Rattle.kms_serve.specs.Renewals.{IsRenewed, renewals}
use Rattle.kms_serve.specs.Replies.{due}
use Rattle.kms_serve.specs.RunStart.{RunStart, history}

-- At this moment each time that was told belongs to one message, what was sent on each line is a prefix of what is due there,
-- and what a stop leaves of the store holds each request that was acknowledged. Before the first event it is what it was. There
-- were at most two syncs for the opening, two more for each time that the store was settled, and three for each time that a snapshot
-- was put in the place of the records, which began a generation of the store.
pub record Answered (start : RunStart) (marks : List Mark) (calls : List Call) : Type 0 where
  pub within : length (events start.plan calls) ≤ length marks
  pub timed : length (times calls) ≡ requests (events start.plan calls)
  pub printed : (line : ℕ) → (rest : List ℕ) × (due line start marks calls ≡ sent line calls ++ rest)
  pub in_turn : InTurn start marks calls
  pub still : IsStill calls
  pub safe : IsSafe start marks calls
  pub unasked : events start.plan calls ≡ [] → IsAsBefore start.was (history start calls)
  pub few_syncs : syncs (history start calls).calls ≤ syncs start.was.calls + 2 + 2 * settles calls + 3 * renewals calls
  pub renewed : IsRenewed start calls
