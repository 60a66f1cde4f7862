-- How many requests were acknowledged on a line.
use Rattle.std.specs.Prelude.{◌≡◌, ℕ, ◌+◌, ◌-◌, ◌≤◌, max, nat_lt, List, [], ◌∷◌, length, map, take, true, ◌==◌, ◌&&◌, if◌then◌else◌}
use Rattle.kms_host.specs.Line.{sent}
use Rattle.kms_host.specs.declared.call.Call.{Call}
use Rattle.kms_model.specs.Course.{Mark, Outcome, outcomes_of}
use Rattle.kms_serve.specs.Crash.{Holds}
use Rattle.kms_serve.specs.Events.{LineEvent, events}
use Rattle.kms_serve.specs.Plan.{replies_on_lines}
use Rattle.kms_serve.specs.Replies.{event_of, steps_by, reply_to, answered}
use Rattle.kms_serve.specs.RunStart.{RunStart}

-- How many of the events stand up to and with the last on this line whose reply has a byte among the first so many that were
-- sent there. So many others stand before these events.
abbrev pub acknowledged_from : (line size before : ℕ) → (endpoint : List ℕ) → List LineEvent → List Outcome → ℕ
acknowledged_from line size before endpoint [] outcomes = 0
acknowledged_from line size before endpoint (e ∷ es) [] = 0
acknowledged_from line size before endpoint (e ∷ es) (outcome ∷ outcomes) =
    max (if e.line == line && nat_lt 0 size then before + 1 else 0)
    (acknowledged_from line (size - length (if e.line == line then reply_to endpoint e outcome else [])) (before + 1) endpoint es outcomes)

-- the same of a run: up to and with the last event of which a byte of its reply was sent on this line
abbrev pub acknowledged : RunStart → List Mark → List Call → (line : ℕ) → ℕ
acknowledged start marks calls line =
    let es = answered start.plan calls in
    acknowledged_from line (length (sent line calls)) 0 start.plan.endpoint es (outcomes_of start.first (map event_of es) marks)

-- Where requests come from lines, what a crash image holds has the steps of all events up to and with the last that was
-- acknowledged, on whichever line.
abbrev pub IsAcknowledgedKept : Type 0
IsAcknowledgedKept = (start : RunStart) (marks : List Mark) (calls : List Call) (image : List ℕ × List ℕ) → (h : Holds start marks calls image) → replies_on_lines start.plan.command ≡ true → (line : ℕ)
    → steps_by start.first (take (acknowledged start marks calls line) (answered start.plan calls)) marks ≤ steps_by start.first (take h.count (events start.plan calls)) marks
