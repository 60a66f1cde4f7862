-- What the program keeps between its steps.
use Rattle.std.specs.Prelude.{◌≡◌, ◌⊎◌, ℕ, ◌+◌, ◌≤◌, ◌<◌, List, [], ◌∷◌, ◌++◌, ◌==◌, length, take, false, true, Some, if◌then◌else◌}
use Rattle.kms_host.specs.Disk.{files, IsImage}
use Rattle.kms_host.specs.Moment.{AtEach}
use Rattle.kms_host.specs.Line.{taken, sent, at_end, failed_on, is_shut}
use Rattle.kms_host.specs.declared.call.Call.{Call}
use Rattle.kms_journal.specs.Device.{IsQuietStore}
use Rattle.kms_core.specs.Settling.{IsOpened, count_of}
use Rattle.kms_journal.specs.Standing.{Standing, standing_of}
use Rattle.kms_core.specs.Steps.{Held, IsSettled}
use Rattle.kms_model.specs.Course.{Mark}
use Rattle.kms_http.specs.MessageStream.{After, after}
use Rattle.kms_http.specs.Messages.{front}
use Rattle.kms_http.specs.MessageStream.After.{Going, Over, Broken}
use Rattle.kms_http.specs.Messages.Front.{Bad}
use Rattle.kms_world.specs.declared.refusal.Refusal.{Refusal}
use Rattle.kms_serve.specs.Allowed.{IsFull}
use Rattle.kms_serve.specs.Answered.{Answered}
use Rattle.kms_serve.specs.Batches.{in_batch, before_open}
use Rattle.kms_serve.specs.Crash.{KeepsAfter}
use Rattle.kms_serve.specs.Ends.{IsEnd}
use Rattle.kms_serve.specs.Events.{LineEvent, events, requests_on}
use Rattle.kms_serve.specs.Marks.{AreMarks}
use Rattle.kms_serve.specs.Plan.{most_of, line_now, IsAlive}
use Rattle.kms_serve.specs.Renewals.{renewals}
use Rattle.kms_serve.specs.Replies.{course_by, steps_by, answered, owed_to, due}
use Rattle.kms_serve.specs.RunStart.{RunStart, history}
use Rattle.kms_serve.specs.StoreCalls.{key_file_failed, store_failed}
use Rattle.kms_serve.specs.declared.serving.Serving.{Serving}
use Rattle.kms_serve.specs.declared.status.Status.{Status}

-- these bytes of the line that is served now, as a line sees them
abbrev pub on_line : (now line : ℕ) → List ℕ → List ℕ
on_line now line bytes = if now == line then bytes else []

-- If nothing was pending when the run began, the journal's generation is above what the store's was then by the renewals.
abbrev pub IsAbove : RunStart → Held → List Call → Type 0
IsAbove start engine calls = IsQuietStore start.was → (s : Standing) → standing_of (files start.was) ≡ Some s → engine.store.journal.generation ≡ s.generation + renewals calls

-- While a batch is answered: the theorem holds at each moment so far. The replies to what came before the batch were given whole;
-- these bytes of the batch's replies are owed, and on no line was more sent. Whatever a stop leaves keeps what came before the batch.
pub record OwingAt (start : RunStart) (marks : List Mark) (owed : List ℕ) (calls : List Call) : Type 0 where
  pub each : AtEach (Answered start marks) calls
  pub are_marks : AreMarks start marks calls
  pub given : (line : ℕ) → IsAlive start.plan.command line calls → sent line calls ≡ owed_to line start marks (events start.plan (before_open calls))
  pub few : (line : ℕ) → length (sent line calls) ≤ length (owed_to line start marks (events start.plan (before_open calls)))
  pub owes : (line : ℕ) → IsAlive start.plan.command line calls
      → owed_to line start marks (events start.plan calls) ≡ sent line calls ++ on_line (line_now start.plan.command calls) line owed
  pub keeps : IsQuietStore start.was → (image : List ℕ × List ℕ) → IsImage (history start calls) image → KeepsAfter start marks (events start.plan (before_open calls)) image
  pub unfailed : store_failed calls ≡ false

-- From its settle on: these bytes of the replies are not given yet, and whatever a stop leaves keeps all events.
pub record GivingAt (start : RunStart) (marks : List Mark) (owed : List ℕ) (calls : List Call) : Type 0 where
  pub each : AtEach (Answered start marks) calls
  pub are_marks : AreMarks start marks calls
  pub few : (line : ℕ) → length (sent line calls) ≤ length (owed_to line start marks (events start.plan calls))
  pub owes : (line : ℕ) → IsAlive start.plan.command line calls
      → owed_to line start marks (events start.plan calls) ≡ sent line calls ++ on_line (line_now start.plan.command calls) line owed
  pub keeps : IsQuietStore start.was → (image : List ℕ × List ℕ) → IsImage (history start calls) image → KeepsAfter start marks (events start.plan calls) image
  pub unfailed : store_failed calls ≡ false

-- What is owed is one reply: the replies to any first events end before it or after it. And no message is left for its batch.
pub record IsOneReply (start : RunStart) (marks : List Mark) (line : ℕ) (reply : List ℕ) (calls : List Call) : Type 0 where
  pub in_one : (k : ℕ) → (length (owed_to line start marks (take k (answered start.plan calls))) ≤ length (sent line calls))
      ⊎ (length (sent line calls) + length reply ≤ length (owed_to line start marks (take k (answered start.plan calls))))
  pub full : IsFull start calls

-- where the line is broken, the reader holds what is no message
abbrev pub StopsAt : (most : ℕ) → After → Serving → List Call → Type 0
StopsAt most (Going rest) s calls = Unit {0}
StopsAt most Over s calls = Unit {0}
StopsAt most Broken s calls = (n : ℕ) × (refusal : Refusal) × (s.count ≡ n + 1) × (after most n (taken 0 calls) ≡ Some (Going s.reader.held)) × (front s.reader.held ≡ Bad refusal)

-- Line 0 stands so after the messages that were answered, and the reader and the count stand where it does.
pub record IsAtLine (start : RunStart) (s : Serving) (stand : After) (calls : List Call) : Type 0 where
  pub counted : s.count ≡ requests_on 0 (events start.plan calls)
  pub held : after (most_of start.plan.command) s.count (taken 0 calls) ≡ Some stand
  pub stops : StopsAt (most_of start.plan.command) stand s calls
  pub place : s.reader.passed + length s.reader.held ≡ length (taken 0 calls)
  pub unfinished : at_end 0 calls ≡ false
  pub sound : failed_on 0 calls ≡ false
  pub unshut : is_shut 0 calls ≡ false
  pub keyed : key_file_failed calls ≡ false

-- A message was answered and its steps wait: what the engine keeps opens under the master keys to the state after it, and
-- its store stands for the state before it.
pub record Owes (start : RunStart) (s : Serving) (stand : After) (reply : List ℕ) (calls : List Call) : Type 0 where
  pub marks : List Mark
  pub owing : OwingAt start marks reply calls
  pub one : IsOneReply start marks 0 reply calls
  pub line : IsAtLine start s stand calls
  pub answering : 0 < in_batch calls
  pub newest : (e : LineEvent) × (later : List LineEvent) × (e.line ≡ 0) × (events start.plan calls ≡ events start.plan (before_open calls) ++ e ∷ later)
  pub quiet : IsQuietStore start.was → IsQuietStore (history start calls)
  pub above : IsAbove start s.engine calls
  pub masters : s.engine.masters ≡ start.masters
  pub waiting : IsOpened start.masters s.engine.store (history start calls) (course_by start.first (events start.plan (before_open calls)) marks).state
      (start.steps + steps_by start.first (events start.plan (before_open calls)) marks) (course_by start.first (events start.plan calls) marks).state
  pub count : count_of s.engine.store + steps_by start.first (events start.plan (before_open calls)) marks ≡ steps_by start.first (events start.plan calls) marks

-- All steps are settled: the engine's store stands for the state after all events, to which what it keeps opens. These bytes of the replies aren't given yet.
pub record IsGiving (start : RunStart) (s : Serving) (stand : After) (owed : List ℕ) (calls : List Call) : Type 0 where
  pub marks : List Mark
  pub giving : GivingAt start marks owed calls
  pub line : IsAtLine start s stand calls
  pub quiet : IsQuietStore start.was → IsQuietStore (history start calls)
  pub above : IsAbove start s.engine calls
  pub masters : s.engine.masters ≡ start.masters
  pub settled : IsSettled start.masters s.engine (start.steps + steps_by start.first (events start.plan calls) marks) (course_by start.first (events start.plan calls) marks).state (history start calls)

-- and they are one reply
pub record IsReplying (start : RunStart) (s : Serving) (stand : After) (reply : List ℕ) (calls : List Call) : Type 0 where
  pub giving : IsGiving start s stand reply calls
  pub one : IsOneReply start giving.marks 0 reply calls

-- all replies are given, and no batch is being answered
pub record IsGiven (start : RunStart) (s : Serving) (stand : After) (calls : List Call) : Type 0 where
  pub giving : IsGiving start s stand [] calls
  pub between : in_batch calls ≡ 0

-- between two turns the line goes on with the bytes that the reader holds
abbrev pub GoodAt : RunStart → Serving → List Call → Type 0
GoodAt start s calls = IsGiven start s (Going s.reader.held) calls

-- the files have at least the steps of all events that are answered
pub record KeepsAnswered (start : RunStart) (marks : List Mark) (calls : List Call) (image : List ℕ × List ℕ) : Type 0 where
  pub count : ℕ
  pub within : count ≤ length (events start.plan calls)
  pub keeps : KeepsAfter start marks (take count (events start.plan calls)) image
  pub all : steps_by start.first (answered start.plan calls) marks ≤ steps_by start.first (take count (events start.plan calls)) marks

-- A call of the store failed. These bytes of its fault are not given yet.
pub record FaultingAt (start : RunStart) (owed : List ℕ) (calls : List Call) : Type 0 where
  pub marks : List Mark
  pub each : AtEach (Answered start marks) calls
  pub are_marks : AreMarks start marks calls
  pub owes : (line : ℕ) → due line start marks calls ≡ sent line calls ++ on_line 0 line owed
  pub before : (k : ℕ) → length (owed_to 0 start marks (take k (answered start.plan calls))) ≤ length (sent 0 calls)
  pub full : IsFull start calls
  pub unfinished : at_end 0 calls ≡ false
  pub sound : failed_on 0 calls ≡ false
  pub failed : store_failed calls ≡ true
  pub keep : IsQuietStore start.was → (image : List ℕ × List ℕ) → IsImage (history start calls) image → KeepsAnswered start marks calls image

-- after the last turn
pub record EndedAt (start : RunStart) (s : Status) (calls : List Call) : Type 0 where
  pub marks : List Mark
  pub each : AtEach (Answered start marks) calls
  pub are_marks : AreMarks start marks calls
  pub end : IsEnd start marks s calls
