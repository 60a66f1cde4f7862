-- A message of line 0 is answered: its reply is owed, and its steps wait.
use Rattle.std.proofs.Common.{List, Some, [], ap, append_assoc, arith, cond, false, inl, inr, length, length-append, map, refl, subst, suc, sym, take, true, zero, ℕ, ◌%◌, ◌++◌, ◌+◌, ◌<◌, ◌∙◌, ◌∷◌, ◌≡◌, ◌≤◌, ◌⊎◌}
use Rattle.std.proofs.lemmas.List.{append-nil}
use Rattle.kms_core.specs.Settling.{IsOpened, count_of}
use Rattle.kms_core.specs.Steps.{HasState, Held, IsSettled, Waits}
use Rattle.kms_host.proofs.Moments.{then_calls-append}
use Rattle.kms_host.specs.History.{History, then_call}
use Rattle.kms_host.specs.Line.{at_end, failed_on, is_shut, sent, taken}
use Rattle.kms_host.specs.Moment.{then_calls}
use Rattle.kms_host.specs.declared.call.Call.{Call}
use Rattle.kms_host.specs.declared.call.Call.TheVariants.{Attached, Came, Drew, Gave, Listened, OnFile, Shut, Text, Told, Took}
use Rattle.kms_http.specs.MessageStream.{After, after, is_last, served_at}
use Rattle.kms_http.specs.MessageStream.After.{Broken, Going, Over}
use Rattle.kms_http.specs.Messages.{front}
use Rattle.kms_http.specs.Messages.Front.{Bad}
use Rattle.kms_http.specs.Reading.{Reading}
use Rattle.kms_http.specs.declared.served.Served.{Served}
use Rattle.kms_journal.specs.Device.{IsQuietStore}
use Rattle.kms_journal.specs.Position.{Position}
use Rattle.kms_model.specs.Course.{AllFit, Course, Mark, course_at, outcome_at, some_draw}
use Rattle.kms_model.specs.Course.Deed.{Asks}
use Rattle.kms_opened.specs.Opened.{Opened}
use Rattle.kms_serve.proofs.AnswerLaws.{some_open}
use Rattle.kms_serve.proofs.BatchLaws.{no_batch}
use Rattle.kms_serve.proofs.CallLaws.{same_by_draws}
use Rattle.kms_serve.proofs.CrashLaws.{Same, quiet_same, same_told, settled_same}
use Rattle.kms_serve.proofs.EventLaws.{after-next, served_at-next}
use Rattle.kms_serve.proofs.GivingLaws.{next_batch}
use Rattle.kms_serve.proofs.OneLaws.{owing_one}
use Rattle.kms_serve.proofs.PrepareLaws.{has_under, no_turns, opened_after}
use Rattle.kms_serve.proofs.ReplyLaws.{course_by-append, course_by-marks, few_take, on_event, replies-append, replies-marks, requests_on-append, steps_by-append, steps_by-marks}
use Rattle.kms_serve.specs.Allowed.{IsFull}
use Rattle.kms_serve.specs.Batches.{batch_size, before_open, in_batch}
use Rattle.kms_serve.specs.Events.{LineEvent, events, events_at, line_event, request_at, requests, requests_on}
use Rattle.kms_serve.specs.Owed.{AnswersOne, OnlyDraws}
use Rattle.kms_serve.specs.Owing.{GoodAt, IsAbove, IsAtLine, IsOneReply, Owes, OwingAt, StopsAt}
use Rattle.kms_serve.specs.Plan.{most, pipe_plan}
use Rattle.kms_serve.specs.Plan.Command.{Pipe}
use Rattle.kms_serve.specs.Renewals.{renewals}
use Rattle.kms_serve.specs.Replies.{answered, answered_if, course_by, event_of, replies, reply_to, steps_by}
use Rattle.kms_serve.specs.Requests.{request_of}
use Rattle.kms_serve.specs.RunStart.{Found, RunStart, history, run_start}
use Rattle.kms_serve.specs.StoreCalls.{key_file_failed, store_failed}
use Rattle.kms_serve.specs.Turns.{IsHeld, IsTaken}
use Rattle.kms_serve.specs.declared.serving.Serving.{Serving}

-- each batch of one is full
pub is_full : (b : RunStart) (calls : List Call) → b.plan.batch ≡ 1 → IsFull b calls
is_full b calls one = inl (ap (λ n. batch_size calls % n) one ∙ mod_one (batch_size calls))
  where
    mod_one : (n : ℕ) → n % 1 ≡ 0
    mod_one n = omega arith

-- the replies to the first events are a part of all
pub replies-front : (line : ℕ) (endpoint : List ℕ) (c : Course) (es : List LineEvent) (ms : List Mark) (k : ℕ) → length (replies line endpoint c (take k es) ms) ≤ length (replies line endpoint c es ms)
replies-front line endpoint c es ms zero = omega arith
replies-front line endpoint c [] ms (suc k) = omega arith
replies-front line endpoint c (d ∷ es) [] (suc k) = omega arith
replies-front line endpoint c (d ∷ es) (m ∷ ms) (suc k) =
    let here : List ℕ = on_event line d (reply_to endpoint d (outcome_at c d.event m)) in
    omega (
      arith,
      replies-front line endpoint (course_at c d.event m) es ms k,
      length-append here (replies line endpoint (course_at c d.event m) (take k es) ms),
      length-append here (replies line endpoint (course_at c d.event m) es ms),
    )

-- the first of these events are the first of the earlier ones, or all
pub take_one_more : (k : ℕ) (es : List LineEvent) (e : LineEvent) → (take k (es ++ e ∷ []) ≡ take k es) ⊎ (take k (es ++ e ∷ []) ≡ es ++ e ∷ [])
take_one_more zero es e = inl refl
take_one_more (suc zero) [] e = inr refl
take_one_more (suc (suc k)) [] e = inr refl
take_one_more (suc k) (d ∷ es) e = elim (take_one_more k es e) [
  | inl first ↦ inl (ap (λ (l : List LineEvent). d ∷ l) first)
  | inr whole ↦ inr (ap (λ (l : List LineEvent). d ∷ l) whole)
]

-- what was answered, as the events of its time
regrouped : (endpoint : List ℕ) (line : ℕ) (group other : (t : ℕ) → List LineEvent) (c : Course) (before after : Held) (owed : List ℕ) (calls : List Call)
    → (a : AnswersOne endpoint line group c before after owed calls) → group a.time ≡ other a.time → AnswersOne endpoint line other c before after owed calls
regrouped endpoint line group other c before after owed calls a same = record {
  time = a.time;
  marks = a.marks;
  draws = a.draws;
  made = a.made;
  only = a.only;
  drawing = subst (λ (l : List LineEvent). (a.draws ≡ []) ⊎ (some_draw 0 c (map event_of l) a.marks ≡ true)) same a.drawing;
  marked = ap (λ (l : List LineEvent). length l) (sym same) ∙ a.marked;
  fit = subst (λ (l : List LineEvent). AllFit c (map event_of l) a.marks) same a.fit;
  keys = a.keys;
  few = a.few;
  reply = a.reply ∙ ap (λ (l : List LineEvent). replies line endpoint c l a.marks) same;
  state = subst (λ (l : List LineEvent). HasState after (course_by c l a.marks).state) same a.state;
  waits = subst (λ (l : List LineEvent). Waits before after (steps_by c l a.marks)) same a.waits;
}

same_drawn : (h : History) (t : ℕ) (draws : List Call) → OnlyDraws draws → Same h (then_calls (then_call h (Told t)) draws)
same_drawn h t [] only = same_told h t
same_drawn h t (Text name room bytes ∷ draws) only = absurd only
same_drawn h t (Listened address done ∷ draws) only = absurd only
same_drawn h t (Came next ∷ draws) only = absurd only
same_drawn h t (Attached name done ∷ draws) only = absurd only
same_drawn h t (Took line room bytes ∷ draws) only = absurd only
same_drawn h t (Gave line piece went ∷ draws) only = absurd only
same_drawn h t (Shut line ∷ draws) only = absurd only
same_drawn h t (OnFile file c ∷ draws) only = absurd only
same_drawn h t (Told u ∷ draws) only = absurd only
same_drawn h t (Drew purpose bytes ∷ draws) only =
    let before = same_drawn h t draws only.1 in
    record { disk = before.disk; attached = before.attached }

module _ (endpoint key_file store : List ℕ) (was : History) (found : Found) (s before t : Serving) (next : Served) (stand : After) (reply : List ℕ) (x y : List Call)
    (g : GoodAt (run_start (pipe_plan store key_file endpoint) was found) before x) (k : IsTaken before s next stand) where
  abbrev pub b : RunStart
  b = run_start (pipe_plan store key_file endpoint) was found

  abbrev pub ms : List Mark
  ms = g.giving.marks

  abbrev pub es : List LineEvent
  es = events b.plan x

  abbrev pub c : Course
  c = course_by b.first es ms

  group_at : (time : ℕ) → request_at b.plan 0 s.count time (Some next) ≡ events_at b.plan Pipe es x time
  group_at time =
      let l = g.giving.line in
      let count : s.count ≡ requests_on 0 es = k.count ∙ l.counted in
      let served_here : served_at most (requests_on 0 es) (taken 0 x) ≡ Some next = ap (λ n. served_at most n (taken 0 x)) (sym l.counted) ∙ served_at-next before.count (taken 0 x) before.reader.held next l.held k.is_next in
      ap (λ n. request_at b.plan 0 n time (Some next)) count
      ∙ ap (λ o. request_at b.plan 0 (requests_on 0 es) time o) (sym served_here)
      ∙ ap (λ z. cond z [] (request_at b.plan 0 (requests_on 0 es) time (served_at most (requests_on 0 es) (taken 0 x)))) (sym l.sound)

  has_state : HasState s.engine c.state
  has_state = subst (λ (h : Held). HasState h c.state) (sym k.engine)
      (subst (λ (m : List (List ℕ)). Opened m before.engine.store.stored.kept c.state) (sym g.giving.masters) g.giving.settled.opened.now)

  module _ (a : AnswersOne endpoint 0 (λ time. request_at b.plan 0 s.count time (Some next)) c s.engine t.engine reply y) (count : t.count ≡ s.count + 1) (reader : t.reader ≡ s.reader) where
    abbrev pub e : LineEvent
    e = line_event 0 a.time (is_last most s.count next) (Asks (request_of next))

    one_event : events_at b.plan Pipe es x a.time ≡ e ∷ []
    one_event = sym (group_at a.time) ∙ ap (λ (l : List LineEvent). e ∷ l) (no_turns store key_file endpoint next 0 a.time)

    abbrev pub calls : List Call
    calls = a.draws ++ Told a.time ∷ x

    made : y ++ x ≡ calls
    made = ap (λ (z : List Call). z ++ x) a.made ∙ append_assoc a.draws (Told a.time ∷ []) x

    all : events b.plan calls ≡ es ++ e ∷ []
    all = same_by_draws (events b.plan) (λ p bytes z. refl) a.draws (Told a.time ∷ x) a.only ∙ ap (λ (l : List LineEvent). es ++ l) one_event

    owing_first : OwingAt b ms [] x
    owing_first = next_batch b ms x g.between g.giving.giving

    owing_then : OwingAt b (ms ++ a.marks) reply (y ++ x)
    unfolding regrouped
    owing_then =
        let one : requests (events_at b.plan Pipe es x a.time) ≡ 1 = ap (λ (l : List LineEvent). requests l) one_event in
        owing_one b ms [] x c s.engine t.engine reply y owing_first
        (regrouped endpoint 0 (λ time. request_at b.plan 0 s.count time (Some next)) (λ time. events_at b.plan Pipe es x time) c s.engine t.engine reply y a (group_at a.time))
        refl refl (omega (arith, g.between)) (λ whole. ap (λ (l : List LineEvent). steps_by b.first l ms) (no_batch b.plan x g.between)) one

    few : length es ≤ length ms
    few = omega (arith, g.giving.giving.are_marks.marked)

    given : sent 0 x ≡ replies 0 endpoint b.first es ms
    given = sym (g.giving.giving.owes 0 tt ∙ append-nil (sent 0 x))

    whole_reply : replies 0 endpoint b.first (es ++ e ∷ []) (ms ++ a.marks) ≡ sent 0 x ++ reply
    whole_reply =
        let grouped : e ∷ [] ≡ request_at b.plan 0 s.count a.time (Some next) = ap (λ (l : List LineEvent). e ∷ l) (sym (no_turns store key_file endpoint next 0 a.time)) in
        replies-append 0 endpoint b.first es (e ∷ []) ms a.marks g.giving.giving.are_marks.marked
        ∙ ap (λ z. z ++ replies 0 endpoint c (e ∷ []) a.marks) (sym given)
        ∙ ap (λ (l : List LineEvent). sent 0 x ++ replies 0 endpoint c l a.marks) grouped
        ∙ ap (λ z. sent 0 x ++ z) (sym a.reply)

    sent_same : sent 0 calls ≡ sent 0 x
    sent_same = same_by_draws (sent 0) (λ p bytes z. refl) a.draws (Told a.time ∷ x) a.only

    unfailed : store_failed calls ≡ false
    unfailed = same_by_draws store_failed (λ p bytes z. refl) a.draws (Told a.time ∷ x) a.only ∙ g.giving.giving.unfailed

    answered_is : answered b.plan calls ≡ es ++ e ∷ []
    answered_is = ap (λ z. answered_if z b.plan calls) unfailed ∙ all

    one_reply : IsOneReply b (ms ++ a.marks) 0 reply calls
    one_reply = record {
      in_one = λ n. rw (answered_is, sent_same) (by_place n (take_one_more n es e));
      full = is_full b calls refl;
    }
      where
        by_place : (n : ℕ) → (take n (es ++ e ∷ []) ≡ take n es) ⊎ (take n (es ++ e ∷ []) ≡ es ++ e ∷ [])
            → (length (replies 0 endpoint b.first (take n (es ++ e ∷ [])) (ms ++ a.marks)) ≤ length (sent 0 x))
            ⊎ (length (sent 0 x) + length reply ≤ length (replies 0 endpoint b.first (take n (es ++ e ∷ [])) (ms ++ a.marks)))
        by_place n (inl front) =
            inl (omega (
              arith,
              ap (λ (l : List LineEvent). length (replies 0 endpoint b.first l (ms ++ a.marks))) front,
              ap (λ (z : List ℕ). length z) (replies-marks 0 endpoint b.first (take n es) ms a.marks (omega (arith, few, few_take n es))),
              replies-front 0 endpoint b.first es ms n,
              ap (λ (z : List ℕ). length z) given,
            ))
        by_place n (inr whole) =
            inr (omega (
              arith,
              ap (λ (l : List LineEvent). length (replies 0 endpoint b.first l (ms ++ a.marks))) whole,
              ap (λ (z : List ℕ). length z) whole_reply,
              length-append (sent 0 x) reply,
            ))

    taken_same : taken 0 calls ≡ taken 0 x
    taken_same = same_by_draws (taken 0) (λ p bytes z. refl) a.draws (Told a.time ∷ x) a.only

    stops_then : (stand : After) → IsHeld stand before s → StopsAt most stand t calls
    stops_then (Going rest) h = tt
    stops_then Over h = tt
    stops_then Broken h = (
      before.count,
      h.0,
      count ∙ ap (λ n. n + 1) k.count,
      rw (taken_same, reader, h.1) g.giving.line.held,
      subst (λ (r : Reading). front r.held ≡ Bad h.0) (sym reader) h.2,
    )

    at_line : IsAtLine b t stand calls
    at_line =
        let l = g.giving.line in
        record {
          counted = rw all (omega (arith, count, k.count, l.counted, requests_on-append 0 es (e ∷ [])));
          held = rw (taken_same, count, k.count) (after-next before.count (taken 0 x) before.reader.held stand l.held k.stands);
          stops = stops_then stand k.stops;
          place = rw (taken_same, reader) (k.place ∙ l.place);
          unfinished = same_by_draws (at_end 0) (λ p bytes z. refl) a.draws (Told a.time ∷ x) a.only ∙ l.unfinished;
          sound = same_by_draws (failed_on 0) (λ p bytes z. refl) a.draws (Told a.time ∷ x) a.only ∙ l.sound;
          unshut = same_by_draws (is_shut 0) (λ p bytes z. refl) a.draws (Told a.time ∷ x) a.only ∙ l.unshut;
          keyed = same_by_draws key_file_failed (λ p bytes z. refl) a.draws (Told a.time ∷ x) a.only ∙ l.keyed;
        }

    same_store : Same (history b x) (history b calls)
    same_store = subst (Same (history b x)) (sym (then_calls-append was a.draws (Told a.time ∷ x))) (same_drawn (history b x) a.time a.draws a.only)

    open_first_same : events b.plan (before_open calls) ≡ es
    open_first_same = ap (λ (z : List Call). events b.plan z) (same_by_draws before_open (λ p bytes z. refl) a.draws (Told a.time ∷ x) a.only) ∙ no_batch b.plan x g.between

    course_first : course_by b.first es (ms ++ a.marks) ≡ c
    course_first = course_by-marks b.first es ms a.marks few

    steps_first : steps_by b.first es (ms ++ a.marks) ≡ steps_by b.first es ms
    steps_first = steps_by-marks b.first es ms a.marks few

    settled_before : IsSettled b.masters s.engine (b.steps + steps_by b.first es ms) c.state (history b x)
    settled_before = subst (λ (h : Held). IsSettled b.masters h (b.steps + steps_by b.first es ms) c.state (history b x)) (sym k.engine) g.giving.settled

    masters_then : t.engine.masters ≡ b.masters
    masters_then = a.waits.masters ∙ ap (λ (h : Held). h.masters) k.engine ∙ g.giving.masters

    grouped_marks : request_at b.plan 0 s.count a.time (Some next) ≡ e ∷ []
    grouped_marks = ap (λ (l : List LineEvent). e ∷ l) (no_turns store key_file endpoint next 0 a.time)

    state_then : Opened b.masters t.engine.store.stored.kept (course_by b.first (es ++ e ∷ []) (ms ++ a.marks)).state
    state_then = has_under b.masters t.engine (course_by b.first (es ++ e ∷ []) (ms ++ a.marks)).state masters_then
        (subst (HasState t.engine) (ap (λ (l : List LineEvent). (course_by c l a.marks).state) grouped_marks
        ∙ ap (λ (d : Course). d.state) (sym (course_by-append b.first es (e ∷ []) ms a.marks g.giving.giving.are_marks.marked))) a.state)

    above_then : IsAbove b t.engine calls
    above_then quiet st first_is =
        ap (λ (p : Position). p.generation) a.waits.journal ∙ ap (λ (h : Held). h.store.journal.generation) k.engine ∙ g.giving.above quiet st first_is
        ∙ ap (λ (m : ℕ). st.generation + m) (sym (same_by_draws renewals (λ p bytes z. refl) a.draws (Told a.time ∷ x) a.only))

    pub owes : Owes b t stand reply (y ++ x)
    owes = record {
      marks = ms ++ a.marks;
      owing = owing_then;
      one = subst (IsOneReply b (ms ++ a.marks) 0 reply) (sym made) one_reply;
      line = subst (IsAtLine b t stand) (sym made) at_line;
      answering = subst (λ (z : List Call). 0 < in_batch z) (sym made) (some_open a.draws a.time x a.only);
      newest = subst (λ (z : List Call). (d : LineEvent) × (later : List LineEvent) × (d.line ≡ 0) × (events b.plan z ≡ events b.plan (before_open z) ++ d ∷ later)) (sym made)
          (e, [], refl, all ∙ ap (λ (l : List LineEvent). l ++ e ∷ []) (sym open_first_same));
      quiet = λ quiet. subst (λ (z : List Call). IsQuietStore (history b z)) (sym made) (quiet_same (history b x) (history b calls) same_store (g.giving.quiet quiet));
      above = subst (λ (z : List Call). IsAbove b t.engine z) (sym made) above_then;
      masters = masters_then;
      waiting = subst (λ (z : List Call). IsOpened b.masters t.engine.store (history b z) (course_by b.first (events b.plan (before_open z)) (ms ++ a.marks)).state (b.steps + steps_by b.first (events b.plan (before_open z)) (ms ++ a.marks)) (course_by b.first (events b.plan z) (ms ++ a.marks)).state) (sym made)
          (rw (open_first_same, course_first, steps_first, all)
          (opened_after b.masters s.engine t.engine (b.steps + steps_by b.first es ms) (steps_by c (request_at b.plan 0 s.count a.time (Some next)) a.marks) c.state (course_by b.first (es ++ e ∷ []) (ms ++ a.marks)).state (history b calls)
          (settled_same s.engine (b.steps + steps_by b.first es ms) c.state (history b x) (history b calls) same_store settled_before) a.waits state_then));
      count = subst (λ (z : List Call). count_of t.engine.store + steps_by b.first (events b.plan (before_open z)) (ms ++ a.marks) ≡ steps_by b.first (events b.plan z) (ms ++ a.marks)) (sym made)
          (rw (open_first_same, all, steps_first) (omega (
            arith,
            a.waits.count,
            settled_before.idle.count,
            ap (λ (l : List LineEvent). steps_by c l a.marks) grouped_marks,
            steps_by-append b.first es (e ∷ []) ms a.marks g.giving.giving.are_marks.marked,
          )));
    }

  pub owes_answered : ((d : Course) → HasState s.engine d.state → AnswersOne endpoint 0 (λ time. request_at b.plan 0 s.count time (Some next)) d s.engine t.engine reply y) → t.count ≡ s.count + 1 → t.reader ≡ s.reader
      → Owes b t stand reply (y ++ x)
  owes_answered answers count reader = owes (answers c has_state) count reader
