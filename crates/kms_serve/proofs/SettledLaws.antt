-- What was answered on line 0 is settled, or the store failed in that.
use Rattle.std.proofs.Common.{Bool, List, [], ap, arith, cond, drop, false, inl, inr, length, length-append, nat_eq, refl, subst, suc, sym, take, true, zero, ℕ, ◌++◌, ◌+◌, ◌<◌, ◌∙◌, ◌∷◌, ◌≡◌, ◌⊎◌}
use Rattle.std.proofs.lemmas.List.{take_all}
use Rattle.std.specs.Prelude.{◌||◌}
use Rattle.kms_core.specs.Settling.{IsSettledOrAll, count_of}
use Rattle.kms_core.specs.Steps.{Held, IsSettled}
use Rattle.kms_host.proofs.Moments.{at_now, then_calls-append}
use Rattle.kms_host.specs.Disk.{IsImage, files}
use Rattle.kms_host.specs.History.{History}
use Rattle.kms_host.specs.Line.{at_end, failed_on, is_shut, sent, taken}
use Rattle.kms_host.specs.Moment.{AtEach, then_calls}
use Rattle.kms_host.specs.Random.{drawn}
use Rattle.kms_host.specs.Store.{syncs}
use Rattle.kms_host.specs.declared.call.Call.{Call}
use Rattle.kms_host.specs.declared.call.Call.TheVariants.{Attached, Came, Drew, Gave, Listened, OnFile, Shut, Text, Told, Took}
use Rattle.kms_host.specs.declared.call.Purpose.TheVariants.{OrderKey}
use Rattle.kms_http.specs.MessageStream.{After}
use Rattle.kms_http.specs.MessageStream.After.{Broken, Going, Over}
use Rattle.kms_http.specs.Reply.{fault_reply_of}
use Rattle.kms_http.specs.declared.fault.FaultReply.TheVariants.{F1}
use Rattle.kms_journal.specs.Device.{IsQuietStore}
use Rattle.kms_model.specs.Course.{Mark}
use Rattle.kms_world.specs.State.{State}
use Rattle.kms_serve.proofs.BatchLaws.{batch_open, open_first}
use Rattle.kms_serve.proofs.CrashLaws.{images_keep, settled_keeps, stands_as}
use Rattle.kms_serve.proofs.OwesLaws.{is_full, replies-front}
use Rattle.kms_serve.proofs.PrepareLaws.{SettleCalls, Settling}
use Rattle.kms_serve.proofs.RenewalLaws.{above_settled, batch_asked, cuts_then, renewals_then, renewed_settling}
use Rattle.kms_serve.proofs.ReplyLaws.{take_front}
use Rattle.kms_serve.proofs.SettlingLaws.{IsSettlingAt, SettlesEach, few_draws_files, owed_first, settled_each}
use Rattle.kms_serve.proofs.StoreCallLaws.{both_unfailed, same_by_files, store_failed-append, unfailed_before}
use Rattle.kms_serve.specs.Answered.{Answered}
use Rattle.kms_serve.specs.Batches.{before_batch, before_open, in_batch}
use Rattle.kms_serve.specs.Crash.{KeepsAfter}
use Rattle.kms_serve.specs.Events.{LineEvent, events}
use Rattle.kms_serve.specs.Marks.{AreMarks}
use Rattle.kms_serve.specs.Owing.{FaultingAt, GivingAt, IsAtLine, IsReplying, KeepsAnswered, Owes, StopsAt, on_line}
use Rattle.kms_serve.specs.Plan.{most, pipe_plan}
use Rattle.kms_serve.specs.Renewals.{is_asked}
use Rattle.kms_serve.specs.Replies.{answered, answered_if, course_by, due_if, fault_on, replies, steps_by}
use Rattle.kms_serve.specs.RunStart.{Found, RunStart, history, run_start}
use Rattle.kms_serve.specs.StoreCalls.{IsUnfailedBefore, OnlyFiles, key_file_failed, store_failed}
use Rattle.kms_serve.specs.declared.serving.Serving.{Serving}

module _ (endpoint key_file store : List ℕ) (was : History) (found : Found) (s : Serving) (after : Held) (stand : After) (reply : List ℕ) (failed : Bool) (x y : List Call)
    (o : Owes (run_start (pipe_plan store key_file endpoint) was found) s stand reply x) (p : Settling s.engine after failed (then_calls was x) y) where
  abbrev pub b : RunStart
  b = run_start (pipe_plan store key_file endpoint) was found

  abbrev pub ms : List Mark
  ms = o.marks

  abbrev pub old : List LineEvent
  old = events b.plan (before_open x)

  abbrev pub es : List LineEvent
  es = events b.plan x

  abbrev pub state : State
  state = (course_by b.first old ms).state

  abbrev pub n : ℕ
  n = b.steps + steps_by b.first old ms

  abbrev pub now : State
  now = (course_by b.first es ms).state

  -- the calls settled what the theorem says
  settles_here : SettleCalls b.masters state n now s.engine after failed (history b x) y
  settles_here = p.settles b.masters state n now o.waiting

  open_suc : (k : ℕ) × (in_batch x ≡ suc k)
  open_suc = some (in_batch x) o.answering
    where
      some : (k : ℕ) → 0 < k → (j : ℕ) × (k ≡ suc j)
      some zero h = absurd (omega (arith, h))
      some (suc k) h = (k, refl)

  total : n + count_of s.engine.store ≡ b.steps + steps_by b.first es ms
  total = omega (arith, o.count)

  keep_two : (z : List Call) → IsSettledOrAll b.masters state n now (count_of s.engine.store) s.engine.store.journal.generation (history b x) (then_calls (history b x) z) → IsQuietStore b.was
      → (image : List ℕ × List ℕ) → IsImage (history b (z ++ x)) image → KeepsAfter b ms old image ⊎ KeepsAfter b ms es image
  keep_two z moment quiet image is =
      elim (moment.images (o.quiet quiet) image (subst (λ (h : History). IsImage h image) (then_calls-append was z x) is)) [
        | inl before ↦ inl (record { stands = before })
        | inr all ↦ inr (record { stands = stands_as image now now (n + count_of s.engine.store) (b.steps + steps_by b.first es ms) refl total all })
      ]

  asked : is_asked x ≡ true
  asked = batch_asked x o.answering

  settling_here : (z : List Call) → OnlyFiles z → IsSettledOrAll b.masters state n now (count_of s.engine.store) s.engine.store.journal.generation (history b x) (then_calls (history b x) z) → IsSettlingAt b ms x (z ++ x)
  settling_here z only moment = record {
    images = keep_two z moment;
    few = omega (arith, moment.paid, ap (λ (h : History). syncs h.calls) (then_calls-append was z x), cuts_then b s.engine x z only asked o.above, renewals_then b s.engine x z only asked o.above);
    renewed = renewed_settling b s.engine x z only asked o.above o.quiet moment.raised;
  }

  only_tail : (c : Call) (files : List Call) → OnlyFiles (c ∷ files) → OnlyFiles files
  only_tail (Text name room bytes) files only = absurd only
  only_tail (Listened address done) files only = absurd only
  only_tail (Came next) files only = absurd only
  only_tail (Attached name done) files only = absurd only
  only_tail (Took l room bytes) files only = absurd only
  only_tail (Gave l piece went) files only = absurd only
  only_tail (Shut l) files only = absurd only
  only_tail (OnFile file c) files only = only
  only_tail (Told t) files only = absurd only
  only_tail (Drew purpose bytes) files only = absurd only

  settles_each : (files : List Call) → OnlyFiles files → IsUnfailedBefore files → AtEach (λ z. IsSettledOrAll b.masters state n now (count_of s.engine.store) s.engine.store.journal.generation (history b x) (then_calls (history b x) z)) files → SettlesEach b ms x files
  settles_each [] only unfailed each = tt
  settles_each (c ∷ files) only unfailed each = (
    settling_here (c ∷ files) only each.0,
    both_unfailed files x unfailed o.owing.unfailed,
    settles_each files (only_tail c files only) (unfailed_before files unfailed) each.1,
  )

  events_same : events b.plan (y ++ x) ≡ es
  events_same = same_by_files (events b.plan) (λ file c z. refl) y x p.only

  sent_same : (line : ℕ) → sent line (y ++ x) ≡ sent line x
  sent_same line = same_by_files (sent line) (λ file c z. refl) y x p.only

  needed : 0 < count_of s.engine.store → steps_by b.first old ms < steps_by b.first es ms
  needed some = omega (arith, o.count, some)

  each_settled : 0 < count_of s.engine.store → AtEach (Answered b ms) (y ++ x)
  each_settled some =
      let busy = open_suc in
      settled_each b ms reply x busy.0 o.owing busy.1 o.line.sound (needed some) o.one.full y p.only (settles_each y p.only p.unfailed settles_here.each)

  marks_same : AreMarks b ms (y ++ x)
  marks_same =
      let m = o.owing.are_marks in
      record {
        marked = rw events_same m.marked;
        fit = rw events_same m.fit;
        keys = m.keys ∙ sym (same_by_files (drawn OrderKey) (λ file c z. refl) y x p.only);
        few = few_draws_files b ms 0 y x p.only m.few;
      }

  line_same : (engine : Held) → IsAtLine b (record { engine = engine; reader = s.reader; routes = s.routes; count = s.count }) stand (y ++ x)
  line_same engine =
      let l = o.line in
      let bytes : taken 0 (y ++ x) ≡ taken 0 x = same_by_files (taken 0) (λ file c z. refl) y x p.only in
      record {
        counted = rw events_same l.counted;
        held = rw bytes l.held;
        stops = stops_same stand bytes l.stops;
        place = rw bytes l.place;
        unfinished = same_by_files (at_end 0) (λ file c z. refl) y x p.only ∙ l.unfinished;
        sound = same_by_files (failed_on 0) (λ file c z. refl) y x p.only ∙ l.sound;
        unshut = same_by_files (is_shut 0) (λ file c z. refl) y x p.only ∙ l.unshut;
        keyed = same_by_files key_file_failed (λ file c z. refl) y x p.only ∙ l.keyed;
      }
    where
      stops_same : (stand : After) → taken 0 (y ++ x) ≡ taken 0 x → StopsAt most stand s x → StopsAt most stand (record { engine = engine; reader = s.reader; routes = s.routes; count = s.count }) (y ++ x)
      stops_same (Going rest) bytes h = tt
      stops_same Over bytes h = tt
      stops_same Broken bytes h = (h.0, h.1, h.2, rw bytes h.3, h.4)

  -- ---- it went well

  module _ (well : failed ≡ false) where
    unfailed_then : store_failed (y ++ x) ≡ false
    unfailed_then = both_unfailed y x (p.fails ∙ well) o.owing.unfailed

    settled_then : IsSettled b.masters after (b.steps + steps_by b.first es ms) now (history b (y ++ x))
    settled_then = subst (IsSettled b.masters after (b.steps + steps_by b.first es ms) now) (sym (then_calls-append was y x)) (subst (λ (k : ℕ). IsSettled b.masters after k now (then_calls (history b x) y)) total (settles_here.done well))

    quiet_then : IsQuietStore b.was → IsQuietStore (history b (y ++ x))
    quiet_then quiet = subst IsQuietStore (sym (then_calls-append was y x)) (settles_here.quiet well (o.quiet quiet))

    each_then : (k : ℕ) → count_of s.engine.store ≡ k → AtEach (Answered b ms) (y ++ x)
    each_then zero none = subst (λ (z : List Call). AtEach (Answered b ms) (z ++ x)) (sym (p.idle none)) o.owing.each
    each_then (suc k) some = each_settled (omega (arith, some))

    masters_then : after.masters ≡ b.masters
    masters_then = p.same.masters ∙ o.masters

    giving_then : GivingAt b ms reply (y ++ x)
    giving_then = record {
      each = each_then (count_of s.engine.store) refl;
      are_marks = marks_same;
      few = λ line. rw (events_same, sent_same line) (omega (arith, o.owing.few line, owed_first b ms x line));
      owes = λ line alive. rw (events_same, sent_same line) (o.owing.owes line tt);
      keeps = rw events_same (images_keep b ms es (y ++ x) quiet_then (settled_keeps b ms es after (history b (y ++ x)) settled_then));
      unfailed = unfailed_then;
    }

    answered_same : answered b.plan (y ++ x) ≡ answered b.plan x
    answered_same = ap (λ z. answered_if z b.plan (y ++ x)) unfailed_then ∙ events_same ∙ ap (λ z. answered_if z b.plan x) (sym o.owing.unfailed)

    pub replying : IsReplying b (record { engine = after; reader = s.reader; routes = s.routes; count = s.count }) stand reply (y ++ x)
    replying = record {
      giving = record {
        marks = ms;
        giving = giving_then;
        line = line_same after;
        quiet = quiet_then;
        above = above_settled b s.engine x y p.only asked o.above after (settles_here.raised well);
        masters = masters_then;
        settled = rw events_same settled_then;
      };
      one = record {
        in_one = λ k. rw (answered_same, sent_same 0) (o.one.in_one k);
        full = is_full b (y ++ x) refl;
      };
    }

  -- ---- the store failed

  module _ (fails : failed ≡ true) where
    failed_then : store_failed (y ++ x) ≡ true
    failed_then = store_failed-append y x ∙ ap (λ z. z || store_failed x) (p.fails ∙ fails)

    some_steps : 0 < count_of s.engine.store
    some_steps = either (count_of s.engine.store) refl
      where
        either : (k : ℕ) → count_of s.engine.store ≡ k → 0 < count_of s.engine.store
        either zero none = absurd (let no : false ≡ true = ap store_failed (sym (p.idle none)) ∙ p.fails ∙ fails in cc)
        either (suc k) some = omega (arith, some)

    batch_same : events b.plan (before_batch (y ++ x)) ≡ old
    batch_same = ap (λ (z : List Call). events b.plan z) (same_by_files before_batch (λ file c z. refl) y x p.only ∙ batch_open x open_suc.0 open_suc.1)

    answered_old : answered b.plan (y ++ x) ≡ old
    answered_old = ap (λ z. answered_if z b.plan (y ++ x)) failed_then ∙ batch_same

    given_old : (line : ℕ) → sent line x ≡ replies line endpoint b.first old ms
    given_old line = o.owing.given line tt

    drop_front : (l more : List LineEvent) → drop (length l) (l ++ more) ≡ more
    drop_front [] more = refl
    drop_front (d ∷ l) more = drop_front l more

    newest : (line : ℕ) → fault_on line (drop (length old) es) ≡ on_line 0 line (fault_reply_of F1)
    newest line =
        let h = o.newest in
        ap (λ (l : List LineEvent). fault_on line (drop (length old) l)) h.3 ∙ ap (λ (l : List LineEvent). fault_on line l) (drop_front old (h.0 ∷ h.1))
        ∙ ap (λ k. cond (nat_eq k line) (fault_reply_of F1) []) h.2

    pub faulting : FaultingAt b (fault_reply_of F1) (y ++ x)
    faulting = record {
      marks = ms;
      each = each_settled some_steps;
      are_marks = marks_same;
      owes = λ line.
          ap (λ z. due_if z true line b ms (y ++ x)) failed_then
          ∙ ap (λ (l : List LineEvent). replies line endpoint b.first l ms ++ fault_on line (drop (length l) (events b.plan (y ++ x)))) batch_same
          ∙ ap (λ (l : List LineEvent). replies line endpoint b.first old ms ++ fault_on line (drop (length old) l)) events_same
          ∙ ap (λ z. replies line endpoint b.first old ms ++ z) (newest line)
          ∙ ap (λ z. z ++ on_line 0 line (fault_reply_of F1)) (sym (sent_same line ∙ given_old line));
      before = λ k. rw (answered_old, sent_same 0) (omega (arith, replies-front 0 endpoint b.first old ms k, ap (λ (z : List ℕ). length z) (given_old 0)));
      full = is_full b (y ++ x) refl;
      unfinished = same_by_files (at_end 0) (λ file c z. refl) y x p.only ∙ o.line.unfinished;
      sound = same_by_files (failed_on 0) (λ file c z. refl) y x p.only ∙ o.line.sound;
      failed = failed_then;
      keep = λ quiet image is.
          keeps_two image (keep_two y (at_now (λ z. IsSettledOrAll b.masters state n now (count_of s.engine.store) s.engine.store.journal.generation (history b x) (then_calls (history b x) z)) y settles_here.each) quiet image is);
    }
      where
        first_es : (more : List LineEvent) × (es ≡ old ++ more)
        first_es = open_first b.plan x

        keeps_two : (image : List ℕ × List ℕ) → KeepsAfter b ms old image ⊎ KeepsAfter b ms es image → KeepsAnswered b ms (y ++ x) image
        keeps_two image (inl before) =
            let f = first_es in
            let front : take (length old) (events b.plan (y ++ x)) ≡ old = ap (λ (l : List LineEvent). take (length old) l) (events_same ∙ f.1) ∙ take_front old f.0 in
            record {
              count = length old;
              within = omega (arith, ap (λ (l : List LineEvent). length l) (events_same ∙ f.1), length-append old f.0);
              keeps = subst (λ (l : List LineEvent). KeepsAfter b ms l image) (sym front) before;
              all = rw (answered_old, front) (omega arith);
            }
        keeps_two image (inr all) =
            let front : take (length es) (events b.plan (y ++ x)) ≡ es = ap (λ (l : List LineEvent). take (length es) l) events_same ∙ take_all (length es) es (omega arith) in
            record {
              count = length es;
              within = omega (arith, ap (λ (l : List LineEvent). length l) events_same);
              keeps = subst (λ (l : List LineEvent). KeepsAfter b ms l image) (sym front) all;
              all = rw (answered_old, front) (omega (arith, o.count));
            }
