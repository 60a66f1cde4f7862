-- What is due on each line.
use Rattle.std.specs.Prelude.{ℕ, List, [], ◌∷◌, ◌++◌, ◌==◌, codes, map, length, drop, Bool, true, false, if◌then◌else◌}
use Rattle.kms_host.specs.declared.call.Call.{Call}
use Rattle.kms_http.specs.Reply.{printed, fault_reply_of}
use Rattle.kms_http.specs.declared.fault.FaultReply.TheVariants.{F1, F2, F3}
use Rattle.kms_json.specs.Answer.{reply_of}
use Rattle.kms_model.specs.Course.{Event, Mark, Course, Outcome, course_of, steps_of, outcomes_of}
use Rattle.kms_model.specs.Course.Outcome.{Answers, NoRandom, NoMemory, Silent}
use Rattle.kms_serve.specs.Batches.{before_batch}
use Rattle.kms_serve.specs.Events.{LineEvent, events}
use Rattle.kms_serve.specs.Plan.{Plan, Command, replies_on_lines}
use Rattle.kms_serve.specs.Plan.Command.{Pipe, Serve, Check}
use Rattle.kms_serve.specs.RunStart.{RunStart}
use Rattle.kms_serve.specs.StoreCalls.{store_failed}

abbrev pub event_of : LineEvent → Event
event_of e = e.event

-- where these events lead, and how many steps they make
abbrev pub course_by : Course → List LineEvent → List Mark → Course
course_by c es marks = course_of c (map event_of es) marks

abbrev pub steps_by : Course → List LineEvent → List Mark → ℕ
steps_by c es marks = steps_of c (map event_of es) marks

-- the reply to an event
abbrev pub reply_to : (endpoint : List ℕ) → LineEvent → Outcome → List ℕ
reply_to endpoint e (Answers answer) = printed (reply_of endpoint answer) e.event.time e.last
reply_to endpoint e NoRandom = fault_reply_of F2
reply_to endpoint e NoMemory = fault_reply_of F3
reply_to endpoint e Silent = []

abbrev pub replies_with : (line : ℕ) → (endpoint : List ℕ) → List LineEvent → List Outcome → List ℕ
replies_with line endpoint [] outcomes = []
replies_with line endpoint (e ∷ es) [] = []
replies_with line endpoint (e ∷ es) (outcome ∷ outcomes) =
    (if e.line == line then reply_to endpoint e outcome else []) ++ replies_with line endpoint es outcomes

-- the replies on a line to these events, in order
abbrev pub replies : (line : ℕ) → (endpoint : List ℕ) → Course → List LineEvent → List Mark → List ℕ
replies line endpoint c es marks = replies_with line endpoint es (outcomes_of c (map event_of es) marks)

-- the fault of the store, as a reply on the line of the first of these events
abbrev pub fault_on : (line : ℕ) → List LineEvent → List ℕ
fault_on line [] = []
fault_on line (e ∷ es) = if e.line == line then fault_reply_of F1 else []

-- the events that have their replies: where a call of the store failed, all but those of the newest batch
abbrev pub answered_if : (store_failed : Bool) → Plan → List Call → List LineEvent
answered_if false p calls = events p calls
answered_if true p calls = events p (before_batch calls)

abbrev pub answered : Plan → List Call → List LineEvent
answered p calls = answered_if (store_failed calls) p calls

-- the events of the newest batch
abbrev pub newest_batch : Plan → List Call → List LineEvent
newest_batch p calls = drop (length (events p (before_batch calls))) (events p calls)

-- what these events are to be answered on a line
abbrev pub owed_to : (line : ℕ) → RunStart → List Mark → List LineEvent → List ℕ
owed_to line start marks es = if replies_on_lines start.plan.command then replies line start.plan.endpoint start.first es marks else []

-- what a command without lines prints
abbrev pub output_of : Command → List ℕ
output_of Pipe = []
output_of (Serve address connections) = []
output_of Check = codes "sound\n"

-- What a line is to be sent. Where requests come from lines it is the replies to its events; and where a call of the store
-- failed, the fault of the store stands in the place of the replies to the newest batch. Else it is the output, on line 0,
-- where no call of the store failed.
abbrev pub due_if : (store_failed on_lines : Bool) → (line : ℕ) → RunStart → List Mark → List Call → List ℕ
due_if false true line start marks calls = replies line start.plan.endpoint start.first (events start.plan calls) marks
due_if true true line start marks calls =
    replies line start.plan.endpoint start.first (events start.plan (before_batch calls)) marks ++ fault_on line (newest_batch start.plan calls)
due_if false false line start marks calls = if line == 0 then output_of start.plan.command else []
due_if true false line start marks calls = []

abbrev pub due : (line : ℕ) → RunStart → List Mark → List Call → List ℕ
due line start marks calls = due_if (store_failed calls) (replies_on_lines start.plan.command) line start marks calls
