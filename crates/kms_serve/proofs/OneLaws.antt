-- One message of a batch more is answered, and what is owed then.
use Rattle.std.proofs.Common.{Bool, List, None, Option, Some, [], ap, append_assoc, arith, cond, false, inl, inr, length, length-append, map, nat_eq, refl, subst, suc, sym, true, zero, ℕ, ◌%◌, ◌++◌, ◌+◌, ◌-◌, ◌<◌, ◌∙◌, ◌∷◌, ◌≡◌, ◌≤◌, ◌⊎◌}
use Rattle.std.proofs.lemmas.Bool.{eqb-true}
use Rattle.std.proofs.lemmas.List.{append-nil}
use Rattle.std.specs.Prelude.{◌&&◌, ◌||◌}
use Rattle.kms_core.specs.Steps.{Held}
use Rattle.kms_host.proofs.Moments.{at_now}
use Rattle.kms_host.specs.Disk.{IsImage}
use Rattle.kms_host.specs.Line.{failed_on, sent, taken}
use Rattle.kms_host.specs.Moment.{AtEach}
use Rattle.kms_host.specs.Random.{drawn, failed_draws, is_for}
use Rattle.kms_host.specs.declared.call.Call.{Call}
use Rattle.kms_host.specs.declared.call.Call.TheVariants.{Attached, Came, Drew, Gave, Listened, OnFile, Shut, Text, Told, Took}
use Rattle.kms_host.specs.declared.call.Purpose.{Purpose}
use Rattle.kms_host.specs.declared.call.Purpose.TheVariants.{OrderKey}
use Rattle.kms_http.specs.MessageStream.{after, served_at}
use Rattle.kms_http.specs.declared.served.Served.{Served}
use Rattle.kms_http.specs.declared.served.Served.TheVariants.{Asking, Unreadable}
use Rattle.kms_model.specs.Course.{AllFit, Course, Mark, course_at, draw_marks, draws, keys_of, outcome_at, some_draw}
use Rattle.kms_serve.proofs.AnswerLaws.{drawn_answered, kept_then, some_open, told_each}
use Rattle.kms_serve.proofs.BatchLaws.{few_open, open_first}
use Rattle.kms_serve.proofs.CallLaws.{same_by_draws}
use Rattle.kms_serve.proofs.MarkLaws.{few-marks, fit-append, keys-append, marks_after, owed-marks}
use Rattle.kms_serve.proofs.ReplyLaws.{replies-append}
use Rattle.kms_serve.specs.Answered.{Answered}
use Rattle.kms_serve.specs.Batches.{before_open, in_batch}
use Rattle.kms_serve.specs.Crash.{KeepsAfter}
use Rattle.kms_serve.specs.Events.{LineEvent, events, events_at, request_at, requests, requests_on, rewraps, works}
use Rattle.kms_serve.specs.Marks.{AreMarks, FewDraws, marks_at}
use Rattle.kms_serve.specs.Owed.{AnswersOne, OnlyDraws}
use Rattle.kms_serve.specs.Owing.{OwingAt, on_line}
use Rattle.kms_serve.specs.Plan.{Command, IsAlive, Plan, last_line, line_now, most_of, replies_on_lines}
use Rattle.kms_serve.specs.Plan.Command.{Check, Pipe, Serve}
use Rattle.kms_serve.specs.Replies.{course_by, event_of, owed_to, replies, reply_to, steps_by}
use Rattle.kms_serve.specs.RunStart.{RunStart, history}
use Rattle.kms_serve.specs.StoreCalls.{store_failed}

or_true : (a b : Bool) → b ≡ true → (a || b) ≡ true
or_true true b h = refl
or_true false b h = h

some_draw-later : (skipped : ℕ) (c : Course) (es fs : List LineEvent) (ms ns : List Mark) → length es ≡ length ms → skipped ≤ length es
    → some_draw 0 (course_by c es ms) (map event_of fs) ns ≡ true → some_draw skipped c (map event_of (es ++ fs)) (ms ++ ns) ≡ true
some_draw-later zero c [] fs [] ns h le some = some
some_draw-later (suc k) c [] fs [] ns h le some = absurd (omega (arith, le))
some_draw-later skipped c [] fs (n ∷ ms) ns h le some = absurd (omega arith)
some_draw-later skipped c (d ∷ es) fs [] ns h le some = absurd (omega arith)
some_draw-later skipped c (d ∷ es) fs (n ∷ ms) ns h le some =
    or_true (nat_eq skipped 0 && draws c d.event.time d.event.deed) _ (some_draw-later (skipped - 1) (course_at c d.event n) es fs ms ns (omega arith) (omega (arith, le)) some)

-- an event of the batch that is being answered draws
abbrev NeedsDraw : RunStart → List Mark → List Call → Bool
NeedsDraw b ms calls = some_draw (length (events b.plan (before_open calls))) b.first (map event_of (events b.plan calls)) ms

drawn_each : (b : RunStart) (ms : List Mark) (t : ℕ) (x draws : List Call) → OnlyDraws draws → (draws ≡ []) ⊎ (NeedsDraw b ms (Told t ∷ x) ≡ true)
    → AtEach (Answered b ms) (Told t ∷ x) → AtEach (Answered b ms) (draws ++ Told t ∷ x)
drawn_each b ms t x [] only need each = each
drawn_each b ms t x (Text name room bytes ∷ draws) only need each = absurd only
drawn_each b ms t x (Attached name done ∷ draws) only need each = absurd only
drawn_each b ms t x (Listened address done ∷ draws) only need each = absurd only
drawn_each b ms t x (Came next ∷ draws) only need each = absurd only
drawn_each b ms t x (Took line room bytes ∷ draws) only need each = absurd only
drawn_each b ms t x (Gave line piece went ∷ draws) only need each = absurd only
drawn_each b ms t x (Shut line ∷ draws) only need each = absurd only
drawn_each b ms t x (OnFile file c ∷ draws) only need each = absurd only
drawn_each b ms t x (Told u ∷ draws) only need each = absurd only
drawn_each b ms t x (Drew purpose bytes ∷ draws) only (inl none) each = absurd (cc)
drawn_each b ms t x (Drew purpose bytes ∷ draws) only (inr need) each =
    let before = drawn_each b ms t x draws only.1 (inr need) each in
    let here : NeedsDraw b ms (draws ++ Told t ∷ x) ≡ true = same_by_draws (NeedsDraw b ms) (λ p bytes c. refl) draws (Told t ∷ x) only.1 ∙ need in
    (drawn_answered b ms purpose bytes (draws ++ Told t ∷ x) (some_open draws t x only.1) only.0 here (at_now (Answered b ms) (draws ++ Told t ∷ x) before), before)

-- One message more of a batch was answered: the theorem holds at each moment of it.
pub one_answered : (b : RunStart) (ms : List Mark) (owed : List ℕ) (x : List Call) (line : ℕ) (c : Course) (before after : Held) (reply : List ℕ) (y : List Call)
    → OwingAt b ms owed x
    → c ≡ course_by b.first (events b.plan x) ms
    → (replies_on_lines b.plan.command ≡ true → in_batch x < b.plan.batch)
    → (in_batch x % b.plan.batch ≡ 0 → steps_by b.first (events b.plan (before_open x)) ms ≡ steps_by b.first (events b.plan x) ms)
    → (a : AnswersOne b.plan.endpoint line (events_at b.plan b.plan.command (events b.plan x) x) c before after reply y)
    → requests (events_at b.plan b.plan.command (events b.plan x) x a.time) ≡ 1
    → AtEach (Answered b (ms ++ a.marks)) (y ++ x)
one_answered b ms owed x line c before after reply y o is room settled a one =
    let es = events b.plan x in
    let here = events_at b.plan b.plan.command es x a.time in
    let need : (a.draws ≡ []) ⊎ (NeedsDraw b (ms ++ a.marks) (Told a.time ∷ x) ≡ true) =
    elim a.drawing [
      | inl none ↦ inl none
      | inr some ↦ inr (some_draw-later (length (events b.plan (before_open x))) b.first es here ms a.marks o.are_marks.marked (few_open b.plan x)
          (subst (λ (d : Course). some_draw 0 d (map event_of here) a.marks ≡ true) is some))
    ] in
    subst (AtEach (Answered b (ms ++ a.marks))) (sym (ap (λ (z : List Call). z ++ x) a.made ∙ append_assoc a.draws (Told a.time ∷ []) x))
    (drawn_each b (ms ++ a.marks) a.time x a.draws a.only need (told_each b ms a.marks owed a.time x o room settled one a.marked))

drawn-draws : (draws x : List Call) → OnlyDraws draws → drawn OrderKey (draws ++ x) ≡ drawn OrderKey x ++ drawn OrderKey draws
drawn-draws [] x only = sym (append-nil (drawn OrderKey x))
drawn-draws (Text name room bytes ∷ draws) x only = absurd only
drawn-draws (Attached name done ∷ draws) x only = absurd only
drawn-draws (Listened address done ∷ draws) x only = absurd only
drawn-draws (Came next ∷ draws) x only = absurd only
drawn-draws (Took line room bytes ∷ draws) x only = absurd only
drawn-draws (Gave line piece went ∷ draws) x only = absurd only
drawn-draws (Shut line ∷ draws) x only = absurd only
drawn-draws (OnFile file c ∷ draws) x only = absurd only
drawn-draws (Told t ∷ draws) x only = absurd only
drawn-draws (Drew purpose None ∷ draws) x only = drawn-draws draws x only.1
drawn-draws (Drew purpose (Some bytes) ∷ draws) x only = either (is_for purpose OrderKey) (drawn-draws draws x only.1)
  where
    either : (z : Bool) → drawn OrderKey (draws ++ x) ≡ drawn OrderKey x ++ drawn OrderKey draws
        → cond z (drawn OrderKey (draws ++ x) ++ bytes) (drawn OrderKey (draws ++ x)) ≡ drawn OrderKey x ++ cond z (drawn OrderKey draws ++ bytes) (drawn OrderKey draws)
    either false h = h
    either true h = ap (λ z. z ++ bytes) h ∙ append_assoc (drawn OrderKey x) (drawn OrderKey draws) bytes

few_after : (b : RunStart) (marks : List Mark) (t : ℕ) (x draws : List Call) (k : ℕ) → OnlyDraws draws → draw_marks (marks_at b marks t x) ≤ k + failed_draws draws → FewDraws b marks 0 x
    → FewDraws b marks k (draws ++ Told t ∷ x)
few_after b marks t x [] k only few rest = (omega (arith, few), rest)
few_after b marks t x (Text name room bytes ∷ draws) k only few rest = absurd only
few_after b marks t x (Attached name done ∷ draws) k only few rest = absurd only
few_after b marks t x (Listened address done ∷ draws) k only few rest = absurd only
few_after b marks t x (Came next ∷ draws) k only few rest = absurd only
few_after b marks t x (Took line room bytes ∷ draws) k only few rest = absurd only
few_after b marks t x (Gave line piece went ∷ draws) k only few rest = absurd only
few_after b marks t x (Shut line ∷ draws) k only few rest = absurd only
few_after b marks t x (OnFile file c ∷ draws) k only few rest = absurd only
few_after b marks t x (Told u ∷ draws) k only few rest = absurd only
few_after b marks t x (Drew purpose (Some bytes) ∷ draws) k only few rest = few_after b marks t x draws k only.1 few rest
few_after b marks t x (Drew purpose None ∷ draws) k only few rest = few_after b marks t x draws (k + 1) only.1 (omega (arith, few)) rest

-- the marks of one message more are marks of the run
pub one_marked : (b : RunStart) (ms : List Mark) (x : List Call) (line : ℕ) (c : Course) (before after : Held) (reply : List ℕ) (y : List Call) → AreMarks b ms x
    → c ≡ course_by b.first (events b.plan x) ms
    → (a : AnswersOne b.plan.endpoint line (events_at b.plan b.plan.command (events b.plan x) x) c before after reply y)
    → AreMarks b (ms ++ a.marks) (y ++ x)
one_marked b ms x line c before after reply y m is a =
    let es = events b.plan x in
    let here = events_at b.plan b.plan.command es x a.time in
    let calls : y ++ x ≡ a.draws ++ Told a.time ∷ x = ap (λ (z : List Call). z ++ x) a.made ∙ append_assoc a.draws (Told a.time ∷ []) x in
    let all : events b.plan (a.draws ++ Told a.time ∷ x) ≡ es ++ here = same_by_draws (events b.plan) (λ p bytes c. refl) a.draws (Told a.time ∷ x) a.only in
    let keys : drawn OrderKey (a.draws ++ Told a.time ∷ x) ≡ drawn OrderKey x ++ drawn OrderKey a.draws = drawn-draws a.draws (Told a.time ∷ x) a.only in
    subst (AreMarks b (ms ++ a.marks)) (sym calls) (record {
      marked = omega (arith, ap (λ (z : List LineEvent). length z) all, length-append es here, length-append ms a.marks, m.marked, a.marked);
      fit = subst (λ (z : List LineEvent). AllFit b.first (map event_of z) (ms ++ a.marks)) (sym all)
          (fit-append b.first es here ms a.marks m.marked m.fit (subst (λ (d : Course). AllFit d (map event_of here) a.marks) is a.fit));
      keys = keys-append ms a.marks ∙ ap (λ z. z ++ keys_of a.marks) m.keys ∙ ap (λ z. drawn OrderKey x ++ z) a.keys ∙ sym keys;
      few = few_after b (ms ++ a.marks) a.time x a.draws 0 a.only
          (omega (arith, a.few, ap draw_marks (marks_after (length es) ms a.marks m.marked (length here) a.marked)))
          (few-marks b ms a.marks x 0 (omega (arith, m.marked)) m.few);
    })

-- ---- what is owed

-- all of these events are on the line
abbrev pub AllOn : ℕ → List LineEvent → Type 0
AllOn line [] = Unit {0}
AllOn line (e ∷ es) = (e.line ≡ line) × AllOn line es

on-append : (line : ℕ) (x y : List LineEvent) → AllOn line x → AllOn line y → AllOn line (x ++ y)
on-append line [] y h k = k
on-append line (e ∷ x) y h k = (h.0, on-append line x y h.1 k)

works_on : (from count line t : ℕ) → AllOn line (works from count line t)
works_on from zero line t = tt
works_on from (suc n) line t = (refl, works_on (from + 1) n line t)

rewraps_on : (z : Bool) (line t : ℕ) → AllOn line (rewraps z line t)
rewraps_on false line t = tt
rewraps_on true line t = (refl, tt)

request_on : (p : Plan) (line n t : ℕ) (s : Option Served) → AllOn line (request_at p line n t s)
request_on p line n t None = tt
request_on p line n t (Some (Unreadable refusal)) = (refl, tt)
request_on p line n t (Some (Asking message)) = (refl, on-append line (works 0 p.workers line t) (rewraps p.rewrap line t) (works_on 0 p.workers line t) (rewraps_on p.rewrap line t))

line_events_on : (p : Plan) (line : ℕ) (es : List LineEvent) (x : List Call) (t : ℕ) (z : Bool) → AllOn line (cond z [] (request_at p line (requests_on line es) t (served_at (most_of p.command) (requests_on line es) (taken line x))))
line_events_on p line es x t true = tt
line_events_on p line es x t false = request_on p line (requests_on line es) t (served_at (most_of p.command) (requests_on line es) (taken line x))

events_on : (p : Plan) (command : Command) (es : List LineEvent) (x : List Call) (t : ℕ) → replies_on_lines command ≡ true → AllOn (line_now command x) (events_at p command es x t)
events_on p Pipe es x t on = line_events_on p 0 es x t (failed_on 0 x)
events_on p (Serve address connections) es x t on = line_events_on p (last_line x) es x t (failed_on (last_line x) x)
events_on p Check es x t on = absurd (let no : false ≡ true = on in cc)

replies_elsewhere : (line l : ℕ) (endpoint : List ℕ) (c : Course) (es : List LineEvent) (ms : List Mark) → nat_eq line l ≡ false → AllOn line es → replies l endpoint c es ms ≡ []
replies_elsewhere line l endpoint c [] ms other on = refl
replies_elsewhere line l endpoint c (e ∷ es) [] other on = refl
replies_elsewhere line l endpoint c (e ∷ es) (m ∷ ms) other on =
    let here : List ℕ = reply_to endpoint e (outcome_at c e.event m) in
    ap (λ z. cond z here [] ++ replies l endpoint (course_at c e.event m) es ms) (ap (λ k. nat_eq k l) on.0 ∙ other)
    ∙ replies_elsewhere line l endpoint (course_at c e.event m) es ms other on.1

image_drawn : (b : RunStart) (draws x : List Call) (image : List ℕ × List ℕ) → OnlyDraws draws → IsImage (history b (draws ++ x)) image → IsImage (history b x) image
image_drawn b [] x image only is = is
image_drawn b (Text name room bytes ∷ draws) x image only is = absurd only
image_drawn b (Attached name done ∷ draws) x image only is = absurd only
image_drawn b (Listened address done ∷ draws) x image only is = absurd only
image_drawn b (Came next ∷ draws) x image only is = absurd only
image_drawn b (Took line room bytes ∷ draws) x image only is = absurd only
image_drawn b (Gave line piece went ∷ draws) x image only is = absurd only
image_drawn b (Shut line ∷ draws) x image only is = absurd only
image_drawn b (OnFile file c ∷ draws) x image only is = absurd only
image_drawn b (Told t ∷ draws) x image only is = absurd only
image_drawn b (Drew purpose bytes ∷ draws) x image only is = image_drawn b draws x image only.1 (record { file_0 = is.file_0; file_1 = is.file_1 })

-- What the program keeps, with one message more answered.
module _ (b : RunStart) (ms : List Mark) (owed : List ℕ) (x : List Call) (c : Course) (before after : Held) (reply : List ℕ) (y : List Call) (o : OwingAt b ms owed x)
    (a : AnswersOne b.plan.endpoint (line_now b.plan.command x) (events_at b.plan b.plan.command (events b.plan x) x) c before after reply y) (is : c ≡ course_by b.first (events b.plan x) ms)
    (on : replies_on_lines b.plan.command ≡ true) where
  abbrev pub calls : List Call
  calls = a.draws ++ Told a.time ∷ x

  abbrev pub es : List LineEvent
  es = events b.plan x

  abbrev pub here : List LineEvent
  here = events_at b.plan b.plan.command es x a.time

  all : events b.plan calls ≡ es ++ here
  all = same_by_draws (events b.plan) (λ p bytes c. refl) a.draws (Told a.time ∷ x) a.only

  opened_same : before_open calls ≡ before_open x
  opened_same = same_by_draws before_open (λ p bytes c. refl) a.draws (Told a.time ∷ x) a.only

  sent_same : (l : ℕ) → sent l calls ≡ sent l x
  sent_same l = same_by_draws (sent l) (λ p bytes c. refl) a.draws (Told a.time ∷ x) a.only

  now_same : line_now b.plan.command calls ≡ line_now b.plan.command x
  now_same = same_by_draws (line_now b.plan.command) (λ p bytes c. skip b.plan.command p bytes c) a.draws (Told a.time ∷ x) a.only ∙ told b.plan.command
    where
      skip : (command : Command) (p : Purpose) (bytes : Option (List ℕ)) (c : List Call) → line_now command (Drew p bytes ∷ c) ≡ line_now command c
      skip Pipe p bytes c = refl
      skip (Serve address connections) p bytes c = refl
      skip Check p bytes c = refl

      told : (command : Command) → line_now command (Told a.time ∷ x) ≡ line_now command x
      told Pipe = refl
      told (Serve address connections) = refl
      told Check = refl

  alive_same : (l : ℕ) → IsAlive b.plan.command l calls → IsAlive b.plan.command l x
  alive_same l = either b.plan.command
    where
      either : (command : Command) → IsAlive command l calls → IsAlive command l x
      either Pipe h = tt
      either (Serve address connections) h = sym (same_by_draws (failed_on l) (λ p bytes c. refl) a.draws (Told a.time ∷ x) a.only) ∙ h
      either Check h = tt

  few_first : length (events b.plan (before_open x)) ≤ length ms
  few_first = let f = open_first b.plan x in omega (arith, ap (λ (z : List LineEvent). length z) f.1, length-append (events b.plan (before_open x)) f.0, o.are_marks.marked)

  owed_before : (l : ℕ) → owed_to l b (ms ++ a.marks) (events b.plan (before_open calls)) ≡ owed_to l b ms (events b.plan (before_open x))
  owed_before l = ap (λ (z : List Call). owed_to l b (ms ++ a.marks) (events b.plan z)) opened_same ∙ owed-marks l b ms a.marks (events b.plan (before_open x)) few_first

  owes_on : (l : ℕ) → owed_to l b ms es ≡ sent l x ++ on_line (line_now b.plan.command x) l owed
      → owed_to l b (ms ++ a.marks) (es ++ here) ≡ sent l x ++ on_line (line_now b.plan.command x) l (owed ++ reply)
  owes_on l before_it =
      let now = line_now b.plan.command x in
      let last = replies l b.plan.endpoint (course_by b.first es ms) here a.marks in
      ap (λ z. cond z (replies l b.plan.endpoint b.first (es ++ here) (ms ++ a.marks)) []) on
      ∙ replies-append l b.plan.endpoint b.first es here ms a.marks o.are_marks.marked
      ∙ ap (λ z. z ++ last) (ap (λ z. cond z (replies l b.plan.endpoint b.first es ms) []) (sym on) ∙ before_it)
      ∙ either (nat_eq now l) refl
    where
      either : (z : Bool) → nat_eq (line_now b.plan.command x) l ≡ z
          → (sent l x ++ cond z owed []) ++ replies l b.plan.endpoint (course_by b.first es ms) here a.marks ≡ sent l x ++ cond z (owed ++ reply) []
      either true same =
          append_assoc (sent l x) owed _
          ∙ ap (λ z. sent l x ++ (owed ++ z))
          (sym (a.reply ∙ ap (λ (d : Course). replies (line_now b.plan.command x) b.plan.endpoint d here a.marks) is ∙ ap (λ k. replies k b.plan.endpoint (course_by b.first es ms) here a.marks) (eqb-true (line_now b.plan.command x) l same)))
      either false other =
          append_assoc (sent l x) [] _
          ∙ ap (λ z. sent l x ++ z) (replies_elsewhere (line_now b.plan.command x) l b.plan.endpoint (course_by b.first es ms) here a.marks other (events_on b.plan b.plan.command es x a.time on))

  pub owing_one : (in_batch x < b.plan.batch) → (in_batch x % b.plan.batch ≡ 0 → steps_by b.first (events b.plan (before_open x)) ms ≡ steps_by b.first (events b.plan x) ms) → requests here ≡ 1 → OwingAt b (ms ++ a.marks) (owed ++ reply) (y ++ x)
  owing_one room settled one =
      let made : y ++ x ≡ calls = ap (λ (z : List Call). z ++ x) a.made ∙ append_assoc a.draws (Told a.time ∷ []) x in
      let each = one_answered b ms owed x (line_now b.plan.command x) c before after reply y o is (λ e. room) settled a one in
      let marked = one_marked b ms x (line_now b.plan.command x) c before after reply y o.are_marks is a in
      subst (OwingAt b (ms ++ a.marks) (owed ++ reply)) (sym made) (record {
        each = subst (AtEach (Answered b (ms ++ a.marks))) made each;
        are_marks = subst (AreMarks b (ms ++ a.marks)) made marked;
        given = λ l alive. sent_same l ∙ o.given l (alive_same l alive) ∙ sym (owed_before l);
        few = λ l. omega (arith, o.few l, ap (λ (z : List ℕ). length z) (sent_same l), ap (λ (z : List ℕ). length z) (owed_before l));
        owes = λ l alive.
            ap (λ (z : List LineEvent). owed_to l b (ms ++ a.marks) z) all ∙ owes_on l (o.owes l (alive_same l alive))
            ∙ ap (λ z. z ++ on_line (line_now b.plan.command x) l (owed ++ reply)) (sym (sent_same l))
            ∙ ap (λ k. sent l calls ++ on_line k l (owed ++ reply)) (sym now_same);
        keeps = λ quiet image is_image.
            let was = image_drawn b a.draws (Told a.time ∷ x) image a.only is_image in
            let k = kept_then b ms a.marks owed a.time x o image (o.keeps quiet image (record { file_0 = was.file_0; file_1 = was.file_1 })) in
            subst (λ (z : List Call). KeepsAfter b (ms ++ a.marks) (events b.plan z) image) (sym opened_same) k;
        unfailed = same_by_draws store_failed (λ p bytes c. refl) a.draws (Told a.time ∷ x) a.only ∙ o.unfailed;
      })
