-- How a run ends.
use Rattle.std.specs.Prelude.{◌≡◌, ◌⊎◌, ℕ, ◌+◌, ◌<◌, List, [], ◌∷◌, length, true, false, Option, Some, None, Ok, Err}
use Rattle.kms_host.specs.Disk.{files, IsImage}
use Rattle.kms_host.specs.Line.{taken, sent, at_end, failed_on, is_shut, opened}
use Rattle.kms_host.specs.declared.call.Call.{Call}
use Rattle.kms_host.specs.declared.call.Call.TheVariants.{Text, Listened, Came, Attached, Took, Gave, Shut, OnFile, Told, Drew}
use Rattle.kms_host.specs.declared.call.NameFault.TheVariants as names
use Rattle.kms_journal.specs.Device.{IsQuietStore}
use Rattle.kms_model.specs.Course.{Mark}
use Rattle.kms_http.specs.Messages.{front}
use Rattle.kms_http.specs.MessageStream.{After, after}
use Rattle.kms_http.specs.Messages.Front.{Bad, Part}
use Rattle.kms_http.specs.MessageStream.After.{Going, Over}
use Rattle.kms_world.specs.declared.refusal.Refusal.{Refusal}
use Rattle.kms_serve.specs.Allowed.{IsServed}
use Rattle.kms_serve.specs.Batches.{in_batch, before_open}
use Rattle.kms_serve.specs.Crash.{KeepsAfter}
use Rattle.kms_serve.specs.Events.{events, requests_on}
use Rattle.kms_serve.specs.Plan.{Command, most_of, IsAlive, HasCome}
use Rattle.kms_serve.specs.Plan.Command.{Pipe, Serve, Check}
use Rattle.kms_serve.specs.Renewals.{AllRenewed}
use Rattle.kms_serve.specs.Replies.{owed_to, due}
use Rattle.kms_serve.specs.RunStart.{RunStart, history}
use Rattle.kms_serve.specs.StoreCalls.{key_file_failed, store_failed}
use Rattle.kms_serve.specs.declared.status.Status.{Status}
use Rattle.kms_serve.specs.declared.status.Status.TheVariants as status

-- all that is due was given, and nothing else, on each line on which no call failed
abbrev pub AllGiven : RunStart → List Mark → List Call → Type 0
AllGiven start marks calls = (line : ℕ) → IsAlive start.plan.command line calls → sent line calls ≡ due line start marks calls

-- The store keeps the state after all events, and no call of it failed. If nothing was pending when the run began, nothing is,
-- each crash image keeps that state, and each snapshot that was begun is whole.
pub record AllKept (start : RunStart) (marks : List Mark) (calls : List Call) : Type 0 where
  pub keeps : KeepsAfter start marks (events start.plan calls) (files (history start calls))
  pub quiet : IsQuietStore start.was → IsQuietStore (history start calls)
  pub images : IsQuietStore start.was → (image : List ℕ × List ℕ) → IsImage (history start calls) image → KeepsAfter start marks (events start.plan calls) image
  pub unfailed : store_failed calls ≡ false
  pub renewed : AllRenewed start calls

-- where a line stands after the messages that were answered
abbrev pub StandsAt : RunStart → (line : ℕ) → List Call → Option After → Type 0
StandsAt start line calls stand = after (most_of start.plan.command) (requests_on line (events start.plan calls)) (taken line calls) ≡ stand

-- The line was read to its end after a message, or served up to the message that ends it.
abbrev pub EndsClean : RunStart → (line : ℕ) → List Call → Type 0
EndsClean start line calls = ((at_end line calls ≡ true) × StandsAt start line calls (Some (Going []))) ⊎ StandsAt start line calls (Some Over)

-- It was read to its end, and the bytes after its last message are a part of one, which begins at this place.
pub record EndsInside (start : RunStart) (place : ℕ) (calls : List Call) : Type 0 where
  pub rest : List ℕ
  pub ended : at_end 0 calls ≡ true
  pub held : StandsAt start 0 calls (Some (Going rest))
  pub part : front rest ≡ Part
  pub some : 0 < length rest
  pub at : place + length rest ≡ length (taken 0 calls)

-- What was served last stands at this place and is no message.
pub record EndsUnreadable (start : RunStart) (place : ℕ) (calls : List Call) : Type 0 where
  pub before : ℕ
  pub rest : List ℕ
  pub last : requests_on 0 (events start.plan calls) ≡ before + 1
  pub held : after (most_of start.plan.command) before (taken 0 calls) ≡ Some (Going rest)
  pub refusal : Refusal
  pub bad : front rest ≡ Bad refusal
  pub at : place + length rest ≡ length (taken 0 calls)

-- Each of many lines that came is shut, and where no call of it failed it was served to its end.
abbrev pub LinesEnded : RunStart → List Call → Type 0
LinesEnded start calls = (line : ℕ) → HasCome line calls
    → (is_shut line calls ≡ true) × ((failed_on line calls ≡ true) ⊎ IsServed start.plan.command line (events start.plan calls) calls)

-- the newest call told that no more lines come
abbrev pub NoMoreLines : List Call → Type 0
NoMoreLines [] = ⊥
NoMoreLines (Text name room bytes ∷ calls) = ⊥
NoMoreLines (Listened address done ∷ calls) = ⊥
NoMoreLines (Came None ∷ calls) = ⊥
NoMoreLines (Came (Some None) ∷ calls) = Unit {0}
NoMoreLines (Came (Some (Some line)) ∷ calls) = ⊥
NoMoreLines (Attached name done ∷ calls) = ⊥
NoMoreLines (Took line room bytes ∷ calls) = ⊥
NoMoreLines (Gave line piece went ∷ calls) = ⊥
NoMoreLines (Shut line ∷ calls) = ⊥
NoMoreLines (OnFile file c ∷ calls) = ⊥
NoMoreLines (Told t ∷ calls) = ⊥
NoMoreLines (Drew purpose bytes ∷ calls) = ⊥

-- the newest call failed on this line
abbrev pub EndsFailed : ℕ → List Call → Type 0
EndsFailed line [] = ⊥
EndsFailed line (Text name room bytes ∷ calls) = ⊥
EndsFailed line (Listened address done ∷ calls) = ⊥
EndsFailed line (Came next ∷ calls) = ⊥
EndsFailed line (Attached name done ∷ calls) = ⊥
EndsFailed line (Took l room (Some bytes) ∷ calls) = ⊥
EndsFailed line (Took l room None ∷ calls) = l ≡ line
EndsFailed line (Gave l piece (Some n) ∷ calls) = ⊥
EndsFailed line (Gave l piece None ∷ calls) = l ≡ line
EndsFailed line (Shut l ∷ calls) = ⊥
EndsFailed line (OnFile file c ∷ calls) = ⊥
EndsFailed line (Told t ∷ calls) = ⊥
EndsFailed line (Drew purpose bytes ∷ calls) = ⊥

-- the newest call failed to read a key file
abbrev pub KeyFileFailed : List Call → Type 0
KeyFileFailed [] = ⊥
KeyFileFailed (Text name room (Ok bytes) ∷ calls) = ⊥
KeyFileFailed (Text name room (Err names.Failed) ∷ calls) = Unit {0}
KeyFileFailed (Text name room (Err names.NoMemory) ∷ calls) = ⊥
KeyFileFailed (Listened address done ∷ calls) = ⊥
KeyFileFailed (Came line ∷ calls) = ⊥
KeyFileFailed (Attached name done ∷ calls) = ⊥
KeyFileFailed (Took l room bytes ∷ calls) = ⊥
KeyFileFailed (Gave l piece went ∷ calls) = ⊥
KeyFileFailed (Shut l ∷ calls) = ⊥
KeyFileFailed (OnFile file c ∷ calls) = ⊥
KeyFileFailed (Told t ∷ calls) = ⊥
KeyFileFailed (Drew purpose bytes ∷ calls) = ⊥

-- the newest call shut line 0
abbrev pub EndsShut : List Call → Type 0
EndsShut [] = ⊥
EndsShut (Text name room bytes ∷ calls) = ⊥
EndsShut (Listened address done ∷ calls) = ⊥
EndsShut (Came line ∷ calls) = ⊥
EndsShut (Attached name done ∷ calls) = ⊥
EndsShut (Took l room bytes ∷ calls) = ⊥
EndsShut (Gave l piece went ∷ calls) = ⊥
EndsShut (Shut l ∷ calls) = l ≡ 0
EndsShut (OnFile file c ∷ calls) = ⊥
EndsShut (Told t ∷ calls) = ⊥
EndsShut (Drew purpose bytes ∷ calls) = ⊥

-- ---- what commands have of their own

-- all that the command was to do was done
abbrev pub EndsWell : Command → RunStart → List Call → Type 0
EndsWell Pipe start calls = EndsClean start 0 calls
EndsWell (Serve address connections) start calls = LinesEnded start calls × ((opened calls ≡ connections) ⊎ NoMoreLines calls)
EndsWell Check start calls = Unit {0}

-- the one line is shut last
abbrev pub IsShutLast : Command → List Call → Type 0
IsShutLast Pipe calls = EndsShut calls
IsShutLast (Serve address connections) calls = Unit {0}
IsShutLast Check calls = Unit {0}

abbrev pub IsPipe : Command → Type 0
IsPipe Pipe = Unit {0}
IsPipe (Serve address connections) = ⊥
IsPipe Check = ⊥

-- on one line a call that fails ends the run
abbrev pub HasOneLine : Command → Type 0
HasOneLine Pipe = Unit {0}
HasOneLine (Serve address connections) = ⊥
HasOneLine Check = Unit {0}

-- the end of the line from which requests come wasn't told
abbrev pub IsUnended : Command → List Call → Type 0
IsUnended Pipe calls = at_end 0 calls ≡ false
IsUnended (Serve address connections) calls = Unit {0}
IsUnended Check calls = Unit {0}

-- The replies to what came before the batch that is being answered were given, on each line on which no call failed, and the
-- batch has room for one message more.
pub record GivenBefore (start : RunStart) (marks : List Mark) (calls : List Call) : Type 0 where
  pub given : (line : ℕ) → IsAlive start.plan.command line calls → sent line calls ≡ owed_to line start marks (events start.plan (before_open calls))
  pub room : in_batch calls < start.plan.batch

-- The run is out of memory between two messages: a batch that isn't settled yet is given up. On one line that is while it goes on.
abbrev pub EndsHungry : Command → RunStart → List Mark → List Call → Type 0
EndsHungry Pipe start marks calls =
    GivenBefore start marks calls × ((rest : List ℕ) × StandsAt start 0 calls (Some (Going rest))) × (at_end 0 calls ≡ false) × (failed_on 0 calls ≡ false)
EndsHungry (Serve address connections) start marks calls = GivenBefore start marks calls
EndsHungry Check start marks calls = Unit {0}

-- the newest call failed on the line, or on one of many
abbrev pub EndsCutOff : Command → List Call → Type 0
EndsCutOff Pipe calls = EndsFailed 0 calls
EndsCutOff (Serve address connections) calls = (line : ℕ) × EndsFailed line calls
EndsCutOff Check calls = EndsFailed 0 calls

-- A call of the store failed. All that is due then was given, the fault of the store last; or a call of the line failed after it.
pub record EndsFaulted (start : RunStart) (marks : List Mark) (calls : List Call) : Type 0 where
  pub failed : store_failed calls ≡ true
  pub given : AllGiven start marks calls ⊎ EndsCutOff start.plan.command calls

-- What a status says of the calls of the run.
abbrev pub IsEnd : RunStart → List Mark → Status → List Call → Type 0
IsEnd start marks status.Done calls = AllGiven start marks calls × AllKept start marks calls × EndsWell start.plan.command start calls × IsShutLast start.plan.command calls
IsEnd start marks (status.Rest place) calls = IsPipe start.plan.command × AllGiven start marks calls × AllKept start marks calls × EndsInside start place calls × EndsShut calls
IsEnd start marks (status.Unreadable place) calls = IsPipe start.plan.command × AllGiven start marks calls × AllKept start marks calls × EndsUnreadable start place calls × EndsShut calls
IsEnd start marks status.NoMemory calls = EndsHungry start.plan.command start marks calls × (store_failed calls ≡ false) × (key_file_failed calls ≡ false)
IsEnd start marks status.LinkFault calls = HasOneLine start.plan.command × EndsFailed 0 calls × AllKept start marks calls × IsUnended start.plan.command calls
IsEnd start marks status.StoreFault calls = EndsFaulted start marks calls × IsUnended start.plan.command calls
IsEnd start marks status.KeyFileFault calls = KeyFileFailed calls
IsEnd start marks (status.BadKeyFile bad) calls = ⊥
IsEnd start marks (status.UnknownMaster project) calls = ⊥
IsEnd start marks (status.DamagedPayload secret) calls = ⊥
IsEnd start marks status.Words calls = ⊥
IsEnd start marks status.NoStore calls = ⊥
IsEnd start marks status.StoreExists calls = ⊥
IsEnd start marks status.DrawFault calls = ⊥
IsEnd start marks (status.Damaged place) calls = ⊥
