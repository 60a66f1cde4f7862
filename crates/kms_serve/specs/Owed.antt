-- What answering a message, settling and giving bytes did, each from its own start.
use Rattle.std.specs.Prelude.{◌≡◌, ◌⊎◌, ℕ, ◌≤◌, ◌<◌, List, [], ◌∷◌, ◌++◌, length, map, Bool, true, false, Option, Some, None, Result, Ok, Err, OnOk, OnErr}
use Rattle.kms_host.specs.Line.{sent, failed_on}
use Rattle.kms_host.specs.Random.{drawn, failed_draws}
use Rattle.kms_host.specs.declared.call.Call.{Call}
use Rattle.kms_host.specs.declared.call.Call.TheVariants.{Text, Listened, Came, Attached, Took, Gave, Shut, OnFile, Told, Drew}
use Rattle.kms_host.specs.declared.call.Purpose.TheVariants.{OrderKey}
use Rattle.kms_core.specs.Steps.{Held, HasState, LeadsTo, Waits}
use Rattle.kms_core.specs.declared.asked.AskFault.{AskFault}
use Rattle.kms_core.specs.declared.asked.AskFault.TheVariants as faults
use Rattle.kms_core.specs.declared.asked.PreparedStep.{PreparedStep}
use Rattle.kms_world.specs.State.{State}
use Rattle.kms_model.specs.Course.{Mark, Course, Fits, AllFit, draws, course_at, outcome_at, stores_at, steps_if, some_draw, draw_marks, keys_of}
use Rattle.kms_http.specs.Reply.{fault_reply_of}
use Rattle.kms_http.specs.declared.fault.FaultReply.TheVariants.{F2, F3}
use Rattle.kms_serve.specs.Allowed.{IsDraw}
use Rattle.kms_serve.specs.Ends.{EndsFailed}
use Rattle.kms_serve.specs.Events.{LineEvent}
use Rattle.kms_serve.specs.Replies.{event_of, course_by, steps_by, replies, reply_to}
use Rattle.kms_serve.specs.declared.owed.Owed.{Owed}
use Rattle.kms_serve.specs.declared.owed.Owed.TheVariants.{Reply, OutOfMemory, NoDraw}

-- the bytes of a reply that is prepared
abbrev pub owed_bytes : Owed → List ℕ
owed_bytes (Reply bytes) = bytes
owed_bytes OutOfMemory = fault_reply_of F3
owed_bytes NoDraw = fault_reply_of F2

-- nothing but draws
abbrev pub OnlyDraws : List Call → Type 0
OnlyDraws [] = Unit {0}
OnlyDraws (Text name room bytes ∷ calls) = ⊥
OnlyDraws (Listened address done ∷ calls) = ⊥
OnlyDraws (Came line ∷ calls) = ⊥
OnlyDraws (Attached name done ∷ calls) = ⊥
OnlyDraws (Took line room bytes ∷ calls) = ⊥
OnlyDraws (Gave line piece went ∷ calls) = ⊥
OnlyDraws (Shut line ∷ calls) = ⊥
OnlyDraws (OnFile file c ∷ calls) = ⊥
OnlyDraws (Told t ∷ calls) = ⊥
OnlyDraws (Drew purpose bytes ∷ calls) = IsDraw purpose bytes × OnlyDraws calls

-- What was drawn for a request, nothing where it needs nothing, and no key of an order. Where it failed so the newest draw did.
pub record DrawsFor (needs failed : Bool) (calls : List Call) : Type 0 where
  pub only : OnlyDraws calls
  pub needed : (calls ≡ []) ⊎ (needs ≡ true)
  pub keyless : drawn OrderKey calls ≡ []
  pub failing : failed ≡ true → 0 < failed_draws calls

-- there is no answer, since nothing could be drawn
abbrev pub is_undrawn : {T : Type 0} → Result T AskFault → Bool
is_undrawn (Ok x) = false
is_undrawn (Err faults.NoDraw) = true
is_undrawn (Err faults.NoMemory) = false

-- there is a state to which the step leads, if there is one
abbrev pub MayTakeOver : Option PreparedStep → Held → Type 0
MayTakeOver None engine = Unit {0}
MayTakeOver (Some step) engine = (after : State) × LeadsTo step engine after

-- A request was answered, by the plain key manager, or as out of memory or of random bytes, with these draws, and its steps wait.
pub record Responds (endpoint : List ℕ) (c : Course) (before after : Held) (e : LineEvent) (owed : Owed) (calls : List Call) : Type 0 where
  pub mark : Mark
  pub fits : Fits c e.event mark
  pub keyless : keys_of (mark ∷ []) ≡ []
  pub only : OnlyDraws calls
  pub drawing : (calls ≡ []) ⊎ (draws c e.event.time e.event.deed ≡ true)
  pub no_key : drawn OrderKey calls ≡ []
  pub few : draw_marks (mark ∷ []) ≤ failed_draws calls
  pub reply_is : owed_bytes owed ≡ reply_to endpoint e (outcome_at c e.event mark)
  pub state : HasState after (course_at c e.event mark).state
  pub waits : Waits before after (steps_if (stores_at c e.event mark))

-- A time was told for these events, and they were answered, with no call but draws: a request and the turns after it. The replies
-- are owed, and the steps wait.
pub record AnswersOne (endpoint : List ℕ) (line : ℕ) (group : (t : ℕ) → List LineEvent) (c : Course) (before after : Held) (owed : List ℕ) (calls : List Call) : Type 0 where
  pub time : ℕ
  pub marks : List Mark
  pub draws : List Call
  pub made : calls ≡ draws ++ Told time ∷ []
  pub only : OnlyDraws draws
  pub drawing : (draws ≡ []) ⊎ (some_draw 0 c (map event_of (group time)) marks ≡ true)
  pub marked : length (group time) ≡ length marks
  pub fit : AllFit c (map event_of (group time)) marks
  pub keys : keys_of marks ≡ drawn OrderKey draws
  pub few : draw_marks marks ≤ failed_draws draws
  pub reply : owed ≡ replies line endpoint c (group time) marks
  pub state : HasState after (course_by c (group time) marks).state
  pub waits : Waits before after (steps_by c (group time) marks)

-- this piece, given on the line l, is what is left of the bytes
pub record IsLeft (line : ℕ) (bytes : List ℕ) (l : ℕ) (piece : List ℕ) (calls : List Call) : Type 0 where
  pub of_line : l ≡ line
  pub some : 0 < length piece
  pub left : bytes ≡ sent line calls ++ piece
  pub sound : failed_on line calls ≡ false

-- each of these calls gives all that is left of the bytes
abbrev pub OnlyLeft : ℕ → List ℕ → List Call → Type 0
OnlyLeft line bytes [] = Unit {0}
OnlyLeft line bytes (Text name room text ∷ calls) = ⊥
OnlyLeft line bytes (Listened address done ∷ calls) = ⊥
OnlyLeft line bytes (Came next ∷ calls) = ⊥
OnlyLeft line bytes (Attached name done ∷ calls) = ⊥
OnlyLeft line bytes (Took l room taken ∷ calls) = ⊥
OnlyLeft line bytes (Gave l piece went ∷ calls) = IsLeft line bytes l piece calls × OnlyLeft line bytes calls
OnlyLeft line bytes (Shut l ∷ calls) = ⊥
OnlyLeft line bytes (OnFile file c ∷ calls) = ⊥
OnlyLeft line bytes (Told t ∷ calls) = ⊥
OnlyLeft line bytes (Drew purpose random ∷ calls) = ⊥

-- All of these bytes were given on the line, or a prefix of them where the last call failed.
pub record Gives {E : Type 0} (line : ℕ) (bytes : List ℕ) (result : Result (Unit {0}) E) (calls : List Call) : Type 0 where
  pub only : OnlyLeft line bytes calls
  pub whole : OnOk result ((sent line calls ≡ bytes) × (failed_on line calls ≡ false))
  pub failed : OnErr result (EndsFailed line calls)

-- All of these bytes of a fault were given on line 0, or a prefix of them, and then a call failed.
pub record GivesFault (bytes : List ℕ) (calls : List Call) : Type 0 where
  pub only : OnlyLeft 0 bytes calls
  pub given : ((sent 0 calls ≡ bytes) × (failed_on 0 calls ≡ false)) ⊎ EndsFailed 0 calls
