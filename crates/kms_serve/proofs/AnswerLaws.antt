-- A message of a batch is answered: what the program keeps holds again.
use Rattle.std.proofs.Common.{Bool, List, Option, [], ap, append_assoc, arith, cond, false, length, length-append, map, nat_eq, refl, subst, sym, take, true, ℕ, ◌%◌, ◌++◌, ◌+◌, ◌<◌, ◌∙◌, ◌∷◌, ◌≡◌, ◌≤◌}
use Rattle.kms_host.proofs.Moments.{at_map, at_now}
use Rattle.kms_host.specs.Line.{sent, times}
use Rattle.kms_host.specs.Moment.{AtEach}
use Rattle.kms_host.specs.declared.call.Call.{Call}
use Rattle.kms_host.specs.declared.call.Call.TheVariants.{Attached, Came, Drew, Gave, Listened, OnFile, Shut, Text, Told, Took}
use Rattle.kms_host.specs.declared.call.Purpose.{Purpose}
use Rattle.kms_model.specs.Course.{Mark, some_draw}
use Rattle.kms_serve.proofs.BatchLaws.{few_open, open_first}
use Rattle.kms_serve.proofs.CrashLaws.{holds_first, same_told}
use Rattle.kms_serve.proofs.MarkLaws.{answered_marks, keeps_marks, owed-marks}
use Rattle.kms_serve.proofs.RenewalLaws.{renewed_on}
use Rattle.kms_serve.proofs.ReplyLaws.{replies-append, replies-marks, requests-append, steps_by-marks}
use Rattle.kms_serve.specs.Allowed.{IsDraw}
use Rattle.kms_serve.specs.Answered.{Answered}
use Rattle.kms_serve.specs.Batches.{before_open, in_batch}
use Rattle.kms_serve.specs.Crash.{IsSafe, KeepsAfter}
use Rattle.kms_serve.specs.Events.{LineEvent, events, events_at, requests}
use Rattle.kms_serve.specs.Owed.{OnlyDraws}
use Rattle.kms_serve.specs.Owing.{OwingAt}
use Rattle.kms_serve.specs.Plan.{Command, IsAlive, Plan, replies_on_lines}
use Rattle.kms_serve.specs.Plan.Command.{Check, Pipe, Serve}
use Rattle.kms_serve.specs.Replies.{answered_if, course_by, due_if, event_of, output_of, owed_to, replies, steps_by}
use Rattle.kms_serve.specs.RunStart.{RunStart, history}
use Rattle.kms_serve.specs.StoreCalls.{store_failed}

pub alive_off : (command : Command) (line : ℕ) (calls : List Call) → replies_on_lines command ≡ false → IsAlive command line calls
alive_off Pipe line calls off = tt
alive_off (Serve address connections) line calls off = let no : true ≡ false = off in cc
alive_off Check line calls off = tt

-- A time is told for a message: the theorem holds at that moment, with the marks that its events will have.
module _ (b : RunStart) (ms ns : List Mark) (owed : List ℕ) (t : ℕ) (x : List Call) (o : OwingAt b ms owed x) where
  abbrev pub es : List LineEvent
  es = events b.plan x

  abbrev pub here : List LineEvent
  here = events_at b.plan b.plan.command es x t

  abbrev pub first : List LineEvent
  first = events b.plan (before_open x)

  silent : replies_on_lines b.plan.command ≡ false → (line : ℕ) → sent line x ≡ []
  silent off line = o.given line (alive_off b.plan.command line x off) ∙ ap (λ z. cond z (replies line b.plan.endpoint b.first first ms) []) off

  printed_on : (on : Bool) → replies_on_lines b.plan.command ≡ on → (line : ℕ) → (rest : List ℕ) × (due_if false on line b (ms ++ ns) (Told t ∷ x) ≡ sent line x ++ rest)
  printed_on true on line =
      let a = at_now (Answered b ms) x o.each in
      let p = a.printed line in
      let before : replies line b.plan.endpoint b.first es ms ≡ sent line x ++ p.0 =
      ap (λ z. due_if false z line b ms x) (sym on) ∙ ap (λ z. due_if z (replies_on_lines b.plan.command) line b ms x) (sym o.unfailed) ∙ p.1 in
      let later = replies line b.plan.endpoint (course_by b.first es ms) here ns in
      (p.0 ++ later, replies-append line b.plan.endpoint b.first es here ms ns o.are_marks.marked ∙ ap (λ z. z ++ later) before ∙ append_assoc (sent line x) p.0 later)
  printed_on false off line =
      let all = cond (nat_eq line 0) (output_of b.plan.command) [] in
      (all, ap (λ z. z ++ all) (sym (silent off line)))

  few_first : length first ≤ length ms
  few_first = omega (arith, few_open b.plan x, o.are_marks.marked)

  among : (more : List LineEvent) × (events b.plan (Told t ∷ x) ≡ first ++ more)
  among = let f = open_first b.plan x in (f.0 ++ here, ap (λ (z : List LineEvent). z ++ here) f.1 ∙ append_assoc first f.0 here)

  pub kept_then : (image : List ℕ × List ℕ) → KeepsAfter b ms first image → KeepsAfter b (ms ++ ns) first image
  kept_then image k = keeps_marks b ms ns first image few_first k

  safe_then : IsSafe b (ms ++ ns) (Told t ∷ x)
  safe_then = record {
    images = λ quiet image is.
        holds_first b (ms ++ ns) first among.0 among.0 (Told t ∷ x) image among.1
        (ap (λ z. answered_if z b.plan (Told t ∷ x)) o.unfailed ∙ among.1)
        (omega (arith, few_first, length-append ms ns))
        (λ on line. few_on on line)
        (λ off. silent off 0)
        refl
        (kept_then image (o.keeps quiet image (record { file_0 = is.file_0; file_1 = is.file_1 })));
  }
    where
      few_on : replies_on_lines b.plan.command ≡ true → (line : ℕ) → length (sent line x) ≤ length (replies line b.plan.endpoint b.first first (ms ++ ns))
      few_on on line =
          let same : owed_to line b ms first ≡ replies line b.plan.endpoint b.first first ms = ap (λ z. cond z (replies line b.plan.endpoint b.first first ms) []) on in
          omega (arith, o.few line, ap (λ (z : List ℕ). length z) same, ap (λ (z : List ℕ). length z) (replies-marks line b.plan.endpoint b.first first ms ns few_first))

  pub told_answered : (replies_on_lines b.plan.command ≡ true → in_batch x < b.plan.batch) → (in_batch x % b.plan.batch ≡ 0 → steps_by b.first (events b.plan (before_open x)) ms ≡ steps_by b.first (events b.plan x) ms) → requests here ≡ 1 → length here ≡ length ns → Answered b (ms ++ ns) (Told t ∷ x)
  told_answered room settled one marked =
      let a = at_now (Answered b ms) x o.each in
      record {
        within = omega (arith, o.are_marks.marked, marked, length-append es here, length-append ms ns);
        timed = omega (arith, a.timed, length-append (times x) (t ∷ []), requests-append es here, one);
        printed = λ line. subst (λ z. (rest : List ℕ) × (due_if z (replies_on_lines b.plan.command) line b (ms ++ ns) (Told t ∷ x) ≡ sent line x ++ rest)) (sym o.unfailed)
            (printed_on (replies_on_lines b.plan.command) refl line);
        in_turn = record { room = room; settled = λ whole. omega (arith, settled whole, steps_by-marks b.first first ms ns few_first, steps_by-marks b.first es ms ns (omega (arith, o.are_marks.marked))); given = λ line alive. o.given line alive ∙ sym (owed-marks line b ms ns first few_first); unfailed = o.unfailed };
        still = tt;
        safe = safe_then;
        unasked = λ none. absurd (some none one);
        few_syncs = a.few_syncs;
        renewed = renewed_on b x (Told t ∷ x) refl (same_told (history b x) t) a.renewed;
      }
    where
      some : es ++ here ≡ [] → requests here ≡ 1 → ⊥
      some none one = omega (arith, ap (λ (z : List LineEvent). requests z) none, requests-append es here, one)

  -- and at each moment before
  pub told_each : (replies_on_lines b.plan.command ≡ true → in_batch x < b.plan.batch) → (in_batch x % b.plan.batch ≡ 0 → steps_by b.first (events b.plan (before_open x)) ms ≡ steps_by b.first (events b.plan x) ms) → requests here ≡ 1 → length here ≡ length ns → AtEach (Answered b (ms ++ ns)) (Told t ∷ x)
  told_each room settled one marked = (told_answered room settled one marked, at_map (Answered b ms) (Answered b (ms ++ ns)) x (λ calls a. answered_marks b ms ns calls a) o.each)

answered_if-drawn : (failed : Bool) (p : Plan) (purpose : Purpose) (bytes : Option (List ℕ)) (calls : List Call)
    → answered_if failed p (Drew purpose bytes ∷ calls) ≡ answered_if failed p calls
answered_if-drawn false p purpose bytes calls = refl
answered_if-drawn true p purpose bytes calls = refl

due_if-drawn : (failed on : Bool) (line : ℕ) (b : RunStart) (ms : List Mark) (purpose : Purpose) (bytes : Option (List ℕ)) (calls : List Call)
    → due_if failed on line b ms calls ≡ due_if failed on line b ms (Drew purpose bytes ∷ calls)
due_if-drawn false true line b ms purpose bytes calls = refl
due_if-drawn true true line b ms purpose bytes calls = refl
due_if-drawn false false line b ms purpose bytes calls = refl
due_if-drawn true false line b ms purpose bytes calls = refl

-- the theorem holds behind a draw for an event, whether the draw fails or not
pub drawn_answered : (b : RunStart) (ms : List Mark) (purpose : Purpose) (bytes : Option (List ℕ)) (calls : List Call)
    → 0 < in_batch calls → IsDraw purpose bytes → some_draw (length (events b.plan (before_open calls))) b.first (map event_of (events b.plan calls)) ms ≡ true
    → Answered b ms calls → Answered b ms (Drew purpose bytes ∷ calls)
drawn_answered b ms purpose bytes calls answering size needed a = record {
  within = a.within;
  timed = a.timed;
  printed = λ line. let p = a.printed line in (p.0, sym (due_if-drawn (store_failed calls) (replies_on_lines b.plan.command) line b ms purpose bytes calls) ∙ p.1);
  in_turn = record { answering = answering; size = size; needed = needed };
  still = tt;
  safe = record {
    images = λ quiet image is.
        let h = a.safe.images quiet image (record { file_0 = is.file_0; file_1 = is.file_1 }) in
        record {
          count = h.count;
          within = h.within;
          keeps = h.keeps;
          acknowledged = λ on line k begun.
              let same = answered_if-drawn (store_failed calls) b.plan purpose bytes calls in
              subst (λ (l : List LineEvent). steps_by b.first (take (k + 1) l) ms ≤ steps_by b.first (take h.count (events b.plan calls)) ms) (sym same)
              (h.acknowledged on line k (subst (λ (l : List LineEvent). length (replies line b.plan.endpoint b.first (take k l) ms) < length (sent line calls)) same begun));
          shown = h.shown;
          whole = λ settled well. let no : false ≡ true = settled in cc;
        };
  };
  unasked = λ none. let was = a.unasked none in record { images = λ quiet image is. was.images quiet image (record { file_0 = is.file_0; file_1 = is.file_1 }); none = was.none; other = was.other; syncs = was.syncs };
  few_syncs = a.few_syncs;
  renewed = renewed_on b calls (Drew purpose bytes ∷ calls) refl (record { disk = λ f. refl; attached = refl }) a.renewed;
}

pub some_open : (draws : List Call) (t : ℕ) (x : List Call) → OnlyDraws draws → 0 < in_batch (draws ++ Told t ∷ x)
some_open [] t x only = omega arith
some_open (Text name room bytes ∷ draws) t x only = absurd only
some_open (Attached name done ∷ draws) t x only = absurd only
some_open (Listened address done ∷ draws) t x only = absurd only
some_open (Came next ∷ draws) t x only = absurd only
some_open (Took line room bytes ∷ draws) t x only = absurd only
some_open (Gave line piece went ∷ draws) t x only = absurd only
some_open (Shut line ∷ draws) t x only = absurd only
some_open (OnFile file c ∷ draws) t x only = absurd only
some_open (Told u ∷ draws) t x only = absurd only
some_open (Drew purpose bytes ∷ draws) t x only = some_open draws t x only.1
