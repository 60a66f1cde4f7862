-- The events of a run, as its calls determine them.
use Rattle.std.specs.Prelude.{ℕ, zero, suc, ◌+◌, min, List, [], ◌∷◌, ◌++◌, ◌==◌, ◌&&◌, Bool, true, false, Option, Some, None, if◌then◌else◌}
use Rattle.kms_host.specs.Line.{taken, failed_on}
use Rattle.kms_host.specs.declared.call.Call.{Call}
use Rattle.kms_host.specs.declared.call.Call.TheVariants.{Text, Listened, Came, Attached, Took, Gave, Shut, OnFile, Told, Drew}
use Rattle.kms_http.specs.declared.served.Served.{Served}
use Rattle.kms_http.specs.MessageStream.{served_at, is_last}
use Rattle.kms_http.specs.declared.served.Served.TheVariants.{Asking, Unreadable}
use Rattle.kms_model.specs.Course.{Deed, Event}
use Rattle.kms_model.specs.Course.Deed.{Asks, Works, Rewraps}
use Rattle.kms_serve.specs.Plan.{Plan, Command, most_of, line_now}
use Rattle.kms_serve.specs.Requests.{request_of}
use Rattle.kms_serve.specs.Plan.Command.{Pipe, Serve, Check}

-- the last second of the year 9999; a later time is taken for it
abbrev pub latest : ℕ
latest = 253402300799

-- an event, the line of its request, and whether the reply is the last on that line
pub record LineEvent : Type 0 where
  pub line : ℕ
  pub event : Event
  pub last : Bool

-- an event at a time that was told
abbrev pub line_event : (line t : ℕ) → (last : Bool) → Deed → LineEvent
line_event line t last deed = record { line = line; event = record { deed = deed; time = min t latest }; last = last }

-- a turn of each worker, by number
abbrev pub works : (from count line t : ℕ) → List LineEvent
works from zero line t = []
works from (suc n) line t = line_event line t false (Works from) ∷ works (from + 1) n line t

abbrev pub rewraps : Bool → (line t : ℕ) → List LineEvent
rewraps false line t = []
rewraps true line t = line_event line t false Rewraps ∷ []

-- What comes after a request at its time. Nothing comes after what is no message.
abbrev pub turns_after : Plan → Served → (line t : ℕ) → List LineEvent
turns_after p (Unreadable refusal) line t = []
turns_after p (Asking message) line t = works 0 p.workers line t ++ rewraps p.rewrap line t

-- a request, the nth of its line, from 0, and what comes after it
abbrev pub request_at : Plan → (line n t : ℕ) → Option Served → List LineEvent
request_at p line n t None = []
request_at p line n t (Some s) = line_event line t (is_last (most_of p.command) n s) (Asks (request_of s)) ∷ turns_after p s line t

abbrev pub is_request : Deed → Bool
is_request (Asks request) = true
is_request (Works w) = false
is_request Rewraps = false

abbrev pub one_if : Bool → ℕ
one_if b = if b then 1 else 0

-- how many requests these events have on a line, and in all
abbrev pub requests_on : (line : ℕ) → List LineEvent → ℕ
requests_on line [] = 0
requests_on line (e ∷ es) = one_if (is_request e.event.deed && (e.line == line)) + requests_on line es

abbrev pub requests : List LineEvent → ℕ
requests [] = 0
requests (e ∷ es) = one_if (is_request e.event.deed) + requests es

-- The events of a time that was told, after these: it belongs to the first message of the line that has none, on the bytes
-- that came by then. After a failed call of the line there are no more.
abbrev pub line_events : Plan → (line : ℕ) → List LineEvent → List Call → (t : ℕ) → List LineEvent
line_events p line es calls t =
    if failed_on line calls then [] else request_at p line (requests_on line es) t (served_at (most_of p.command) (requests_on line es) (taken line calls))

abbrev pub events_at : Plan → Command → List LineEvent → List Call → (t : ℕ) → List LineEvent
events_at p Pipe es calls t = line_events p 0 es calls t
events_at p (Serve address connections) es calls t = line_events p (line_now (Serve address connections) calls) es calls t
events_at p Check es calls t = []

-- A time that was told makes events, and nothing else does.
abbrev pub events : Plan → List Call → List LineEvent
events p [] = []
events p (Text name room bytes ∷ calls) = events p calls
events p (Listened address done ∷ calls) = events p calls
events p (Came next ∷ calls) = events p calls
events p (Attached name done ∷ calls) = events p calls
events p (Took line room bytes ∷ calls) = events p calls
events p (Gave line piece went ∷ calls) = events p calls
events p (Shut line ∷ calls) = events p calls
events p (OnFile file c ∷ calls) = events p calls
events p (Told t ∷ calls) = events p calls ++ events_at p p.command (events p calls) calls t
events p (Drew purpose bytes ∷ calls) = events p calls
