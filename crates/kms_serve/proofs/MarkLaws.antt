-- Marks of later events change nothing that was said of earlier moments.
use Rattle.std.proofs.Common.{Bool, List, None, Some, [], ap, append_assoc, arith, cond, drop, false, inl, inr, length, length-append, map, nat_eq, refl, subst, suc, sym, take, true, zero, ℕ, ◌++◌, ◌+◌, ◌-◌, ◌<◌, ◌∙◌, ◌∷◌, ◌≡◌, ◌≤◌}
use Rattle.std.proofs.lemmas.List.{take-append-le, take_all}
use Rattle.std.specs.Prelude.{◌&&◌, ◌||◌}
use Rattle.kms_core.specs.Stands.{Stands}
use Rattle.kms_host.specs.Line.{sent}
use Rattle.kms_host.specs.declared.call.Call.{Call}
use Rattle.kms_host.specs.declared.call.Call.TheVariants.{Attached, Came, Drew, Gave, Listened, OnFile, Shut, Text, Told, Took}
use Rattle.kms_model.specs.Course.{AllFit, Course, Event, Mark, course_at, draw_marks, draws, keys_of, some_draw}
use Rattle.kms_model.specs.Course.Mark.{Draw, Memory, Unmarked}
use Rattle.kms_serve.proofs.BatchLaws.{few_batch, few_open}
use Rattle.kms_serve.proofs.ReplyLaws.{course_by-marks, few_take, replies-marks, steps_by-marks}
use Rattle.kms_serve.specs.Allowed.{InTurn}
use Rattle.kms_serve.specs.Answered.{Answered}
use Rattle.kms_serve.specs.Batches.{before_batch, before_open}
use Rattle.kms_serve.specs.Crash.{Holds, KeepsAfter}
use Rattle.kms_serve.specs.Events.{LineEvent, events, events_at}
use Rattle.kms_serve.specs.Marks.{FewDraws}
use Rattle.kms_serve.specs.Plan.{Plan, replies_on_lines}
use Rattle.kms_serve.specs.Replies.{answered, answered_if, course_by, due, due_if, event_of, fault_on, newest_batch, owed_to, steps_by}
use Rattle.kms_serve.specs.RunStart.{RunStart}
use Rattle.kms_serve.specs.StoreCalls.{store_failed}

pub owed-marks : (line : ℕ) (b : RunStart) (ms more : List Mark) (es : List LineEvent) → length es ≤ length ms → owed_to line b (ms ++ more) es ≡ owed_to line b ms es
owed-marks line b ms more es h = ap (λ (x : List ℕ). cond (replies_on_lines b.plan.command) x []) (replies-marks line b.plan.endpoint b.first es ms more h)

due_if-marks : (failed on : Bool) (line : ℕ) (b : RunStart) (ms more : List Mark) (calls : List Call) → length (events b.plan calls) ≤ length ms
    → due_if failed on line b (ms ++ more) calls ≡ due_if failed on line b ms calls
due_if-marks false true line b ms more calls h = replies-marks line b.plan.endpoint b.first (events b.plan calls) ms more h
due_if-marks true true line b ms more calls h =
    ap (λ (x : List ℕ). x ++ fault_on line (newest_batch b.plan calls))
    (replies-marks line b.plan.endpoint b.first (events b.plan (before_batch calls)) ms more (omega (arith, h, few_batch b.plan calls)))
due_if-marks false false line b ms more calls h = refl
due_if-marks true false line b ms more calls h = refl

pub due-marks : (line : ℕ) (b : RunStart) (ms more : List Mark) (calls : List Call) → length (events b.plan calls) ≤ length ms → due line b (ms ++ more) calls ≡ due line b ms calls
due-marks line b ms more calls h = due_if-marks (store_failed calls) (replies_on_lines b.plan.command) line b ms more calls h

pub few_answered : (failed : Bool) (p : Plan) (calls : List Call) → length (answered_if failed p calls) ≤ length (events p calls)
few_answered false p calls = omega arith
few_answered true p calls = few_batch p calls

pub some_draw-marks : (skipped : ℕ) (c : Course) (es : List Event) (ms more : List Mark) → length es ≤ length ms → some_draw skipped c es (ms ++ more) ≡ some_draw skipped c es ms
some_draw-marks skipped c [] ms more h = refl
some_draw-marks skipped c (d ∷ es) [] more h = absurd (omega arith)
some_draw-marks skipped c (d ∷ es) (n ∷ ms) more h = ap (λ (b : Bool). ((nat_eq skipped 0 && draws c d.time d.deed) || b)) (some_draw-marks (skipped - 1) (course_at c d n) es ms more (omega arith))

length-events : (es : List LineEvent) → length (map event_of es) ≡ length es
length-events [] = refl
length-events (e ∷ es) = omega (arith, length-events es)

pub turn_marks : (b : RunStart) (ms more : List Mark) (calls : List Call) → length (events b.plan calls) ≤ length ms → InTurn b ms calls → InTurn b (ms ++ more) calls
turn_marks b ms more [] within h = tt
turn_marks b ms more (Text name room bytes ∷ calls) within h = h
turn_marks b ms more (Attached name done ∷ calls) within h = h
turn_marks b ms more (Listened address done ∷ calls) within h = h
turn_marks b ms more (Came next ∷ calls) within h = h
turn_marks b ms more (Drew purpose bytes ∷ calls) within h = record {
  answering = h.answering;
  size = h.size;
  needed = some_draw-marks _ b.first (map event_of (events b.plan calls)) ms more (omega (arith, within, length-events (events b.plan calls))) ∙ h.needed;
}
turn_marks b ms more (Took l n bytes ∷ calls) within h = record {
  there = h.there;
  of_line = h.of_line;
  of_size = h.of_size;
  unshut = h.unshut;
  unended = h.unended;
  given = h.given ∙ sym (owed-marks l b ms more (events b.plan calls) within);
  rest = h.rest;
  goes_on = h.goes_on;
  part = h.part;
  unfailed = h.unfailed;
}
turn_marks b ms more (Gave l piece n ∷ calls) within h = record {
  some = h.some;
  rest = h.rest;
  next = due-marks l b ms more calls within ∙ h.next;
  in_one = λ k.
      let same = ap (λ (x : List ℕ). length x) (owed-marks l b ms more (take k (answered b.plan calls)) (omega (arith, within, few_take k (answered b.plan calls), few_answered (store_failed calls) b.plan calls))) in
      elim (h.in_one k) [
        | inl before ↦ inl (omega (arith, before, same))
        | inr behind ↦ inr (omega (arith, behind, same))
      ];
  full = h.full;
}
turn_marks b ms more (Shut l ∷ calls) within h = record {
  there = h.there;
  of_line = h.of_line;
  once = h.once;
  over = elim h.over [
    | inl over ↦ inl (over.0 ∙ sym (owed-marks l b ms more (events b.plan calls) within), over.1)
    | inr broken ↦ inr broken
  ];
  unfailed = h.unfailed;
}
turn_marks b ms more (OnFile file c ∷ calls) within h =
    let fewer : length (events b.plan (before_batch calls)) ≤ length ms = omega (arith, within, few_batch b.plan calls) in
    record {
      given = λ line alive. h.given line alive ∙ sym (owed-marks line b ms more (events b.plan (before_batch calls)) fewer);
      needed = elim h.needed [
        | inl opening ↦ inl opening
        | inr step ↦ inr (record {
          answering = step.answering;
          needed = omega (arith, step.needed, steps_by-marks b.first (events b.plan (before_batch calls)) ms more fewer, steps_by-marks b.first (events b.plan calls) ms more within);
          full = step.full;
        })
      ];
      sound = h.sound;
      unfailed = h.unfailed;
    }
turn_marks b ms more (Told t ∷ calls) within h =
    let long = length-append (events b.plan calls) (events_at b.plan b.plan.command (events b.plan calls) calls t) in
    let fewer : length (events b.plan (before_open calls)) ≤ length ms = omega (arith, within, long, few_open b.plan calls) in
    record { room = h.room; settled = λ whole. omega (arith, h.settled whole, steps_by-marks b.first (events b.plan (before_open calls)) ms more fewer, steps_by-marks b.first (events b.plan calls) ms more (omega (arith, within, long))); given = λ line alive. h.given line alive ∙ sym (owed-marks line b ms more (events b.plan (before_open calls)) fewer); unfailed = h.unfailed }

pub keeps_marks : (b : RunStart) (ms more : List Mark) (es : List LineEvent) (image : List ℕ × List ℕ) → length es ≤ length ms → KeepsAfter b ms es image → KeepsAfter b (ms ++ more) es image
keeps_marks b ms more es image within k = record {
  stands = subst (λ n. Stands b.masters image (course_by b.first es (ms ++ more)).state (b.steps + n)) (sym (steps_by-marks b.first es ms more within))
      (subst (λ (c : Course). Stands b.masters image c.state (b.steps + steps_by b.first es ms)) (sym (course_by-marks b.first es ms more within)) k.stands);
}

holds_marks : (b : RunStart) (ms more : List Mark) (calls : List Call) (image : List ℕ × List ℕ) → length (events b.plan calls) ≤ length ms → Holds b ms calls image → Holds b (ms ++ more) calls image
holds_marks b ms more calls image within h =
    let es = events b.plan calls in
    let few = few_take h.count es in
    let steps = steps_by-marks b.first (take h.count es) ms more (omega (arith, few, within)) in
    record {
      count = h.count;
      within = h.within;
      keeps = keeps_marks b ms more (take h.count es) image (omega (arith, few, within)) h.keeps;
      acknowledged = λ on line k begun.
          let all = few_answered (store_failed calls) b.plan calls in
          let fewer = few_take k (answered b.plan calls) in
          let next = few_take (k + 1) (answered b.plan calls) in
          let here = replies-marks line b.plan.endpoint b.first (take k (answered b.plan calls)) ms more (omega (arith, all, fewer, within)) in
          let held = h.acknowledged on line k (subst (λ (x : List ℕ). length x < length (sent line calls)) here begun) in
          omega (arith, held, steps, steps_by-marks b.first (take (k + 1) (answered b.plan calls)) ms more (omega (arith, all, next, within)));
      shown = λ off begun. omega (arith, h.shown off begun, steps, steps_by-marks b.first es ms more within);
      whole = λ settled well. omega (arith, h.whole settled well, steps, steps_by-marks b.first es ms more within);
    }

-- marks of later events change nothing that was said of earlier moments
pub answered_marks : (b : RunStart) (ms more : List Mark) (calls : List Call) → Answered b ms calls → Answered b (ms ++ more) calls
answered_marks b ms more calls a = record {
  within = omega (arith, a.within, length-append ms more);
  timed = a.timed;
  printed = λ line. let p = a.printed line in (p.0, due-marks line b ms more calls a.within ∙ p.1);
  in_turn = turn_marks b ms more calls a.within a.in_turn;
  still = a.still;
  safe = record { images = λ quiet image is. holds_marks b ms more calls image a.within (a.safe.images quiet image is) };
  unasked = a.unasked;
  few_syncs = a.few_syncs;
  renewed = a.renewed;
}

-- ---- the marks of a whole run

pub keys-append : (x y : List Mark) → keys_of (x ++ y) ≡ keys_of x ++ keys_of y
keys-append [] y = refl
keys-append (Unmarked key ∷ x) y = ap (λ z. key ++ z) (keys-append x y) ∙ sym (append_assoc key (keys_of x) (keys_of y))
keys-append (Draw ∷ x) y = keys-append x y
keys-append (Memory ∷ x) y = keys-append x y

pub fit-append : (c : Course) (es fs : List LineEvent) (ms ns : List Mark) → length es ≡ length ms
    → AllFit c (map event_of es) ms → AllFit (course_by c es ms) (map event_of fs) ns → AllFit c (map event_of (es ++ fs)) (ms ++ ns)
fit-append c [] fs [] ns h fit more = more
fit-append c [] fs (m ∷ ms) ns h fit more = absurd (omega arith)
fit-append c (d ∷ es) fs [] ns h fit more = absurd (omega arith)
fit-append c (d ∷ es) fs (m ∷ ms) ns h fit more = (fit.0, fit-append (course_at c d.event m) es fs ms ns (omega arith) fit.1 more)

cut_marks : (n k : ℕ) (ms more : List Mark) → n + k ≤ length ms → take k (drop n (ms ++ more)) ≡ take k (drop n ms)
cut_marks zero k ms more h = take-append-le k ms more (omega (arith, h))
cut_marks (suc n) k [] more h = absurd (omega (arith, h))
cut_marks (suc n) k (m ∷ ms) more h = cut_marks n k ms more (omega (arith, h))

-- marks of later events change nothing
pub few-marks : (b : RunStart) (ms more : List Mark) (calls : List Call) (k : ℕ) → length (events b.plan calls) ≤ length ms → FewDraws b ms k calls → FewDraws b (ms ++ more) k calls
few-marks b ms more [] k within h = h
few-marks b ms more (Text name room bytes ∷ calls) k within h = few-marks b ms more calls k within h
few-marks b ms more (Attached name done ∷ calls) k within h = few-marks b ms more calls k within h
few-marks b ms more (Listened address done ∷ calls) k within h = few-marks b ms more calls k within h
few-marks b ms more (Came next ∷ calls) k within h = few-marks b ms more calls k within h
few-marks b ms more (Took line room bytes ∷ calls) k within h = few-marks b ms more calls k within h
few-marks b ms more (Gave line piece went ∷ calls) k within h = few-marks b ms more calls k within h
few-marks b ms more (Shut line ∷ calls) k within h = few-marks b ms more calls k within h
few-marks b ms more (OnFile file c ∷ calls) k within h = few-marks b ms more calls k within h
few-marks b ms more (Drew purpose (Some bytes) ∷ calls) k within h = few-marks b ms more calls k within h
few-marks b ms more (Drew purpose None ∷ calls) k within h = few-marks b ms more calls (k + 1) within h
few-marks b ms more (Told t ∷ calls) k within h =
    let es = events b.plan calls in
    let here = events_at b.plan b.plan.command es calls t in
    let long = length-append es here in
    (omega (arith, h.0, ap draw_marks (cut_marks (length es) (length here) ms more (omega (arith, within, long)))), few-marks b ms more calls 0 (omega (arith, within, long)) h.1)

pub marks_after : (n : ℕ) (ms ns : List Mark) → n ≡ length ms → (k : ℕ) → k ≡ length ns → take k (drop n (ms ++ ns)) ≡ ns
marks_after zero [] ns h k e = take_all k ns (omega (arith, e))
marks_after zero (m ∷ ms) ns h k e = absurd (omega (arith, h))
marks_after (suc n) [] ns h k e = absurd (omega (arith, h))
marks_after (suc n) (m ∷ ms) ns h k e = marks_after n ms ns (omega (arith, h)) k e
