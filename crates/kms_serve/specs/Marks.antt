-- What the calls of a whole run say of its marks.
use Rattle.std.specs.Prelude.{◌≡◌, ℕ, ◌+◌, ◌≤◌, List, [], ◌∷◌, length, take, drop, Some, None, map}
use Rattle.kms_host.specs.Random.{drawn}
use Rattle.kms_host.specs.declared.call.Call.{Call}
use Rattle.kms_host.specs.declared.call.Call.TheVariants.{Text, Listened, Came, Attached, Took, Gave, Shut, OnFile, Told, Drew}
use Rattle.kms_host.specs.declared.call.Purpose.TheVariants.{OrderKey}
use Rattle.kms_model.specs.Course.{Mark, AllFit, draw_marks, keys_of}
use Rattle.kms_serve.specs.Events.{events, events_at}
use Rattle.kms_serve.specs.Replies.{event_of}
use Rattle.kms_serve.specs.RunStart.{RunStart}

-- the marks of the events of the time that was told last, after these calls
abbrev pub marks_at : RunStart → List Mark → (t : ℕ) → List Call → List Mark
marks_at start marks t calls = take (length (events_at start.plan start.plan.command (events start.plan calls) calls t)) (drop (length (events start.plan calls)) marks)

-- From each time that was told to the next, or to the run's end, at most as many events are answered that there are no random
-- bytes as draws failed. So many failed in the later calls since the last such time.
abbrev pub FewDraws : RunStart → List Mark → (failed : ℕ) → List Call → Type 0
FewDraws start marks failed [] = Unit {0}
FewDraws start marks failed (Text name room bytes ∷ calls) = FewDraws start marks failed calls
FewDraws start marks failed (Listened address done ∷ calls) = FewDraws start marks failed calls
FewDraws start marks failed (Came next ∷ calls) = FewDraws start marks failed calls
FewDraws start marks failed (Attached name done ∷ calls) = FewDraws start marks failed calls
FewDraws start marks failed (Took line room bytes ∷ calls) = FewDraws start marks failed calls
FewDraws start marks failed (Gave line piece went ∷ calls) = FewDraws start marks failed calls
FewDraws start marks failed (Shut line ∷ calls) = FewDraws start marks failed calls
FewDraws start marks failed (OnFile file c ∷ calls) = FewDraws start marks failed calls
FewDraws start marks failed (Told t ∷ calls) = (draw_marks (marks_at start marks t calls) ≤ failed) × FewDraws start marks 0 calls
FewDraws start marks failed (Drew purpose (Some bytes) ∷ calls) = FewDraws start marks failed calls
FewDraws start marks failed (Drew purpose None ∷ calls) = FewDraws start marks (failed + 1) calls

-- One mark for each event, and one that it may have; the keys of orders are the bytes that were drawn for them, in order; and
-- few events had no random bytes.
pub record AreMarks (start : RunStart) (marks : List Mark) (calls : List Call) : Type 0 where
  pub marked : length (events start.plan calls) ≡ length marks
  pub fit : AllFit start.first (map event_of (events start.plan calls)) marks
  pub keys : keys_of marks ≡ drawn OrderKey calls
  pub few : FewDraws start marks 0 calls
