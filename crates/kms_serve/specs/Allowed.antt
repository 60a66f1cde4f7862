-- Which call may come when.
use Rattle.std.specs.Prelude.{◌≡◌, ◌⊎◌, ℕ, ◌+◌, ◌%◌, ◌≤◌, ◌<◌, List, [], ◌∷◌, ◌++◌, length, take, map, Bool, true, false, Option, Some, None, Ok, Err}
use Rattle.kms_host.specs.Line.{taken, sent, at_end, failed_on, is_shut, opened}
use Rattle.kms_host.specs.Store.{apart_from_files}
use Rattle.kms_host.specs.declared.call.Call.{Call}
use Rattle.kms_host.specs.declared.call.Call.TheVariants.{Text, Listened, Came, Attached, Took, Gave, Shut, OnFile, Told, Drew}
use Rattle.kms_host.specs.declared.call.Purpose.{Purpose}
use Rattle.kms_host.specs.declared.call.Purpose.TheVariants.{Tag, Iv, ProjectKey, OrderKey}
use Rattle.kms_http.specs.Messages.{front}
use Rattle.kms_http.specs.MessageStream.{after}
use Rattle.kms_http.specs.Messages.Front.{Part}
use Rattle.kms_http.specs.MessageStream.After.{Going, Over, Broken}
use Rattle.kms_model.specs.Course.{Mark, some_draw}
use Rattle.kms_serve.specs.Batches.{in_batch, before_open, before_batch, batch_size}
use Rattle.kms_serve.specs.Events.{LineEvent, events, events_at, requests_on}
use Rattle.kms_serve.specs.Plan.{Command, most_of, last_line, line_now, replies_on_lines, IsAlive, HasLine, IsBroken}
use Rattle.kms_serve.specs.Plan.Command.{Serve}
use Rattle.kms_serve.specs.Replies.{event_of, steps_by, answered, owed_to, due}
use Rattle.kms_serve.specs.RunStart.{RunStart}
use Rattle.kms_serve.specs.StoreCalls.{store_failed}

-- the names of the key files that were read, in order
abbrev pub keys_read : List Call → List (List ℕ)
keys_read [] = []
keys_read (Text name room (Ok bytes) ∷ calls) = keys_read calls ++ name ∷ []
keys_read (Text name room (Err fault) ∷ calls) = keys_read calls
keys_read (Listened address done ∷ calls) = keys_read calls
keys_read (Came next ∷ calls) = keys_read calls
keys_read (Attached name done ∷ calls) = keys_read calls
keys_read (Took line room bytes ∷ calls) = keys_read calls
keys_read (Gave line piece went ∷ calls) = keys_read calls
keys_read (Shut line ∷ calls) = keys_read calls
keys_read (OnFile file c ∷ calls) = keys_read calls
keys_read (Told t ∷ calls) = keys_read calls
keys_read (Drew purpose bytes ∷ calls) = keys_read calls

-- nothing was done but that these key files were read, each of them well
abbrev pub OnlyKeys : (keys : List (List ℕ)) → List Call → Type 0
OnlyKeys keys calls = (keys_read calls ≡ keys) × (length calls ≡ length keys)

-- lines are listened for
abbrev pub listens : List Call → Bool
listens [] = false
listens (Text name room bytes ∷ calls) = listens calls
listens (Listened address (Ok done) ∷ calls) = true
listens (Listened address (Err fault) ∷ calls) = false
listens (Came next ∷ calls) = listens calls
listens (Attached name done ∷ calls) = listens calls
listens (Took line room bytes ∷ calls) = listens calls
listens (Gave line piece went ∷ calls) = listens calls
listens (Shut line ∷ calls) = listens calls
listens (OnFile file c ∷ calls) = listens calls
listens (Told t ∷ calls) = listens calls
listens (Drew purpose bytes ∷ calls) = listens calls

-- no more lines come, or asking for the next one failed
abbrev pub lines_over : List Call → Bool
lines_over [] = false
lines_over (Text name room bytes ∷ calls) = lines_over calls
lines_over (Listened address done ∷ calls) = lines_over calls
lines_over (Came None ∷ calls) = true
lines_over (Came (Some None) ∷ calls) = true
lines_over (Came (Some (Some line)) ∷ calls) = lines_over calls
lines_over (Attached name done ∷ calls) = lines_over calls
lines_over (Took line room bytes ∷ calls) = lines_over calls
lines_over (Gave line piece went ∷ calls) = lines_over calls
lines_over (Shut line ∷ calls) = lines_over calls
lines_over (OnFile file c ∷ calls) = lines_over calls
lines_over (Told t ∷ calls) = lines_over calls
lines_over (Drew purpose bytes ∷ calls) = lines_over calls

-- ---- the beginning

-- The key files of the plan are read first, in their order, the first 1,024 bytes of each.
pub record MayReadKeys (start : RunStart) (name : List ℕ) (room : ℕ) (calls : List Call) : Type 0 where
  pub of_size : room ≡ 1024
  pub only : OnlyKeys (keys_read calls) calls
  pub later : List (List ℕ)
  pub of_words : start.plan.keys ≡ keys_read calls ++ name ∷ later

-- Then the store that the words name is attached, once.
pub record MayAttach (start : RunStart) (name : List ℕ) (calls : List Call) : Type 0 where
  pub of_words : name ≡ start.plan.store
  pub at_first : OnlyKeys start.plan.keys calls

-- The store was attached. Apart from that and from the calls on its files, nothing was done but that the key files were read.
pub record IsOpening (start : RunStart) (calls : List Call) : Type 0 where
  pub read : List Call
  pub only : OnlyKeys start.plan.keys read
  pub apart : apart_from_files calls ≡ Attached start.plan.store (Ok tt) ∷ read

-- Lines are listened for once, at the address of the words, when the store is open.
pub record MayListen (start : RunStart) (address : List ℕ) (calls : List Call) : Type 0 where
  pub connections : ℕ
  pub of_words : start.plan.command ≡ Serve address connections
  pub opening : IsOpening start calls
  pub unfailed : store_failed calls ≡ false

-- The next line is asked for when the one before is shut, more are to come, and no call of the store failed.
pub record MayAskLine (start : RunStart) (calls : List Call) : Type 0 where
  pub address : List ℕ
  pub connections : ℕ
  pub of_words : start.plan.command ≡ Serve address connections
  pub listening : listens calls ≡ true
  pub more : lines_over calls ≡ false
  pub few : opened calls < connections
  pub shut : (opened calls ≡ 0) ⊎ (is_shut (last_line calls) calls ≡ true)
  pub unfailed : store_failed calls ≡ false

-- ---- on a line

-- Bytes are taken from the line that is served, at most 65,536 at once, and only when each message that came has its time, all
-- replies were given whole, the line goes on, its end wasn't told, and no call of the store failed.
pub record MayTake (start : RunStart) (marks : List Mark) (line room : ℕ) (calls : List Call) : Type 0 where
  pub there : HasLine start.plan.command calls
  pub of_line : line ≡ line_now start.plan.command calls
  pub of_size : room ≡ 65536
  pub unshut : is_shut line calls ≡ false
  pub unended : at_end line calls ≡ false
  pub given : sent line calls ≡ owed_to line start marks (events start.plan calls)
  pub rest : List ℕ
  pub goes_on : after (most_of start.plan.command) (requests_on line (events start.plan calls)) (taken line calls) ≡ Some (Going rest)
  pub part : front rest ≡ Part
  pub unfailed : store_failed calls ≡ false

-- the newest batch is full, or no message is left that a time could be told for
abbrev pub IsFull : RunStart → List Call → Type 0
IsFull start calls = (batch_size calls % start.plan.batch ≡ 0) ⊎ ((t : ℕ) → events_at start.plan start.plan.command (events start.plan calls) calls t ≡ [])

-- What is given is what is due next, of one reply alone, and when all messages of its batch are answered.
pub record MayGive (start : RunStart) (marks : List Mark) (line : ℕ) (piece : List ℕ) (calls : List Call) : Type 0 where
  pub some : 0 < length piece
  pub rest : List ℕ
  pub next : due line start marks calls ≡ sent line calls ++ (piece ++ rest)
  pub in_one : (k : ℕ) → (length (owed_to line start marks (take k (answered start.plan calls))) ≤ length (sent line calls))
      ⊎ (length (sent line calls) + length piece ≤ length (owed_to line start marks (take k (answered start.plan calls))))
  pub full : IsFull start calls

-- the line was read to its end, or served up to the message that ends it
abbrev pub IsServed : Command → (line : ℕ) → List LineEvent → List Call → Type 0
IsServed command line es calls =
    (at_end line calls ≡ true)
    ⊎ ((after (most_of command) (requests_on line es) (taken line calls) ≡ Some Over)
    ⊎ (after (most_of command) (requests_on line es) (taken line calls) ≡ Some Broken))

-- The line that is served is shut once, when all replies were given whole and nothing more is served on it.
pub record MayShut (start : RunStart) (marks : List Mark) (line : ℕ) (calls : List Call) : Type 0 where
  pub there : HasLine start.plan.command calls
  pub of_line : line ≡ line_now start.plan.command calls
  pub once : is_shut line calls ≡ false
  pub over : ((sent line calls ≡ owed_to line start marks (events start.plan calls)) × IsServed start.plan.command line (events start.plan calls) calls)
      ⊎ IsBroken start.plan.command line calls
  pub unfailed : store_failed calls ≡ false

-- ---- batches

-- The newest batch was answered and has a step, and it is full, or no message is left that a time could be told for.
pub record IsSettling (start : RunStart) (marks : List Mark) (calls : List Call) : Type 0 where
  pub answering : 0 < in_batch (apart_from_files calls)
  pub needed : steps_by start.first (events start.plan (before_batch calls)) marks < steps_by start.first (events start.plan calls) marks
  pub full : IsFull start calls

-- A file is called while the store is opened, or to settle the newest batch. Then the replies to all earlier events were given
-- whole on each line that is left, and nothing of the batch was; and no call of the line failed, nor one of the store.
pub record MayCallFile (start : RunStart) (marks : List Mark) (calls : List Call) : Type 0 where
  pub given : (line : ℕ) → IsAlive start.plan.command line calls → sent line calls ≡ owed_to line start marks (events start.plan (before_batch calls))
  pub needed : IsOpening start calls ⊎ IsSettling start marks calls
  pub sound : failed_on (line_now start.plan.command calls) calls ≡ false
  pub unfailed : store_failed calls ≡ false

-- A time is told when the batch that is being answered has room for one message more, all replies to what came before the batch
-- were given whole, and no call of the store failed. Where no reply is given between two batches, the calls count both as one: so
-- no step of a batch that is full may wait.
pub record MayAskTime (start : RunStart) (marks : List Mark) (calls : List Call) : Type 0 where
  pub room : replies_on_lines start.plan.command ≡ true → in_batch calls < start.plan.batch
  pub settled : in_batch calls % start.plan.batch ≡ 0 → steps_by start.first (events start.plan (before_open calls)) marks ≡ steps_by start.first (events start.plan calls) marks
  pub given : (line : ℕ) → IsAlive start.plan.command line calls → sent line calls ≡ owed_to line start marks (events start.plan (before_open calls))
  pub unfailed : store_failed calls ≡ false

-- 16 bytes are drawn for an initialization vector, 32 for a project key, and some for the key of an order
abbrev pub IsDraw : Purpose → Option (List ℕ) → Type 0
IsDraw Tag bytes = ⊥
IsDraw Iv None = Unit {0}
IsDraw Iv (Some bytes) = length bytes ≡ 16
IsDraw ProjectKey None = Unit {0}
IsDraw ProjectKey (Some bytes) = length bytes ≡ 32
IsDraw OrderKey None = Unit {0}
IsDraw OrderKey (Some bytes) = 0 < length bytes

-- Random bytes are drawn while a batch is answered of which an event needs some.
pub record MayDraw (start : RunStart) (marks : List Mark) (purpose : Purpose) (bytes : Option (List ℕ)) (calls : List Call) : Type 0 where
  pub answering : 0 < in_batch calls
  pub size : IsDraw purpose bytes
  pub needed : some_draw (length (events start.plan (before_open calls))) start.first (map event_of (events start.plan calls)) marks ≡ true

-- the newest call came when it may
abbrev pub InTurn : RunStart → List Mark → List Call → Type 0
InTurn start marks [] = Unit {0}
InTurn start marks (Text name room bytes ∷ calls) = MayReadKeys start name room calls
InTurn start marks (Listened address done ∷ calls) = MayListen start address calls
InTurn start marks (Came next ∷ calls) = MayAskLine start calls
InTurn start marks (Attached name done ∷ calls) = MayAttach start name calls
InTurn start marks (Took line room bytes ∷ calls) = MayTake start marks line room calls
InTurn start marks (Gave line piece went ∷ calls) = MayGive start marks line piece calls
InTurn start marks (Shut line ∷ calls) = MayShut start marks line calls
InTurn start marks (OnFile file c ∷ calls) = MayCallFile start marks calls
InTurn start marks (Told t ∷ calls) = MayAskTime start marks calls
InTurn start marks (Drew purpose bytes ∷ calls) = MayDraw start marks purpose bytes calls
