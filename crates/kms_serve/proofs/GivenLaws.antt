-- What is owed on line 0 is given, call by call.
use Rattle.std.proofs.Common.{Bool, List, Option, [], ap, append_assoc, arith, false, inl, inr, length, length-append, refl, subst, sym, take, true, ℕ, ◌++◌, ◌+◌, ◌<◌, ◌∙◌, ◌∷◌, ◌≡◌, ◌≤◌, ◌⊎◌}
use Rattle.std.proofs.lemmas.List.{append-nil, take_all}
use Rattle.std.specs.Prelude.{◌||◌}
use Rattle.kms_core.specs.Steps.{IsSettled}
use Rattle.kms_host.proofs.LineLaws.{at_end-gives, failed_on-append, is_shut-gives, sent-append, taken-gives}
use Rattle.kms_host.proofs.Moments.{at_now}
use Rattle.kms_host.specs.Disk.{IsImage}
use Rattle.kms_host.specs.History.{History}
use Rattle.kms_host.specs.Line.{OnlyGives, failed_on, sent, taken, times}
use Rattle.kms_host.specs.Moment.{AtEach}
use Rattle.kms_host.specs.Random.{drawn}
use Rattle.kms_host.specs.Store.{syncs}
use Rattle.kms_host.specs.declared.call.Call.{Call}
use Rattle.kms_host.specs.declared.call.Call.TheVariants.{Attached, Came, Drew, Gave, Listened, OnFile, Shut, Text, Told, Took}
use Rattle.kms_host.specs.declared.call.Purpose.TheVariants.{OrderKey}
use Rattle.kms_http.specs.MessageStream.{After}
use Rattle.kms_http.specs.MessageStream.After.{Broken, Going, Over}
use Rattle.kms_http.specs.Messages.{front}
use Rattle.kms_journal.specs.Device.{IsQuietStore}
use Rattle.kms_model.specs.Course.{Mark}
use Rattle.kms_serve.proofs.CallLaws.{same_by_gives}
use Rattle.kms_serve.proofs.CrashLaws.{Same, as_before_same, holds_answered, image_same, images_keep, quiet_same, same_gives, settled_keeps, settled_same}
use Rattle.kms_serve.proofs.GiveLaws.{fails-append, left_rest, on_line-append, on_line-nil, only_gives, sent_on}
use Rattle.kms_serve.proofs.OwesLaws.{is_full}
use Rattle.kms_serve.proofs.RenewalLaws.{above_on, all_renewed, renewals-gives, renewed_on}
use Rattle.kms_serve.proofs.StoreCallLaws.{store_failed-gives}
use Rattle.kms_serve.specs.Allowed.{MayGive}
use Rattle.kms_serve.specs.Answered.{Answered}
use Rattle.kms_serve.specs.Batches.{in_batch, settles}
use Rattle.kms_serve.specs.Crash.{KeepsAfter}
use Rattle.kms_serve.specs.Ends.{EndsFailed}
use Rattle.kms_serve.specs.Events.{LineEvent, events}
use Rattle.kms_serve.specs.Marks.{AreMarks, FewDraws}
use Rattle.kms_serve.specs.Owed.{GivesFault, OnlyLeft}
use Rattle.kms_serve.specs.Owing.{EndedAt, FaultingAt, GivingAt, IsAbove, IsGiven, IsReplying, KeepsAnswered, StopsAt, on_line}
use Rattle.kms_serve.specs.Plan.{Plan, most, pipe_plan}
use Rattle.kms_serve.specs.Replies.{answered, answered_if, course_by, due, due_if, owed_to, replies, steps_by}
use Rattle.kms_serve.specs.RunStart.{Found, RunStart, history, run_start}
use Rattle.kms_serve.specs.StoreCalls.{key_file_failed, store_failed}
use Rattle.kms_serve.specs.declared.serving.Serving.{Serving}
use Rattle.kms_serve.specs.declared.status.Status.TheVariants as status

-- what is said of the events and of what is due passes over giving
answered_gave : (failed : Bool) (p : Plan) (l : ℕ) (piece : List ℕ) (went : Option ℕ) (calls : List Call) → answered_if failed p (Gave l piece went ∷ calls) ≡ answered_if failed p calls
answered_gave false p l piece went calls = refl
answered_gave true p l piece went calls = refl

due_gave : (failed on : Bool) (line : ℕ) (b : RunStart) (ms : List Mark) (l : ℕ) (piece : List ℕ) (went : Option ℕ) (calls : List Call)
    → due_if failed on line b ms (Gave l piece went ∷ calls) ≡ due_if failed on line b ms calls
due_gave false true line b ms l piece went calls = refl
due_gave true true line b ms l piece went calls = refl
due_gave false false line b ms l piece went calls = refl
due_gave true false line b ms l piece went calls = refl

-- the files have the steps of all events that are answered
pub giving_keep : (b : RunStart) (ms : List Mark) (owed : List ℕ) (calls : List Call) → GivingAt b ms owed calls
    → IsQuietStore b.was → (image : List ℕ × List ℕ) → IsImage (history b calls) image → KeepsAnswered b ms calls image
giving_keep b ms owed calls g quiet image is =
    let es = events b.plan calls in
    let whole : take (length es) es ≡ es = take_all (length es) es (omega arith) in
    record {
      count = length es;
      within = omega arith;
      keeps = subst (λ (l : List LineEvent). KeepsAfter b ms l image) (sym whole) (g.keeps quiet image is);
      all = rw (g.unfailed, whole) (omega arith);
    }

-- giving is no settling
few_draws-gives : (b : RunStart) (ms : List Mark) (k : ℕ) (gives early : List Call) → OnlyGives 0 gives → FewDraws b ms k early → FewDraws b ms k (gives ++ early)
few_draws-gives b ms k [] early only h = h
few_draws-gives b ms k (Text name room bytes ∷ gives) early only h = absurd only
few_draws-gives b ms k (Listened address done ∷ gives) early only h = absurd only
few_draws-gives b ms k (Came next ∷ gives) early only h = absurd only
few_draws-gives b ms k (Attached name done ∷ gives) early only h = absurd only
few_draws-gives b ms k (Took l room bytes ∷ gives) early only h = absurd only
few_draws-gives b ms k (Gave l piece went ∷ gives) early only h = few_draws-gives b ms k gives early only.1 h
few_draws-gives b ms k (Shut l ∷ gives) early only h = absurd only
few_draws-gives b ms k (OnFile file c ∷ gives) early only h = absurd only
few_draws-gives b ms k (Told t ∷ gives) early only h = absurd only
few_draws-gives b ms k (Drew purpose bytes ∷ gives) early only h = absurd only

pub marks-gives : (b : RunStart) (ms : List Mark) (gives early : List Call) → OnlyGives 0 gives → AreMarks b ms early → AreMarks b ms (gives ++ early)
marks-gives b ms gives early only m =
    let same : events b.plan (gives ++ early) ≡ events b.plan early = same_by_gives (events b.plan) (λ l piece went z. refl) 0 gives early only in
    record {
      marked = rw same m.marked;
      fit = rw same m.fit;
      keys = m.keys ∙ sym (same_by_gives (drawn OrderKey) (λ l piece went z. refl) 0 gives early only);
      few = few_draws-gives b ms 0 gives early only m.few;
    }

-- no batch is being answered after something was given
between-gives : (gives early : List Call) → OnlyGives 0 gives → 0 < length gives → in_batch (gives ++ early) ≡ 0
between-gives [] early only some = absurd (omega (arith, some))
between-gives (Text name room bytes ∷ gives) early only some = refl
between-gives (Listened address done ∷ gives) early only some = refl
between-gives (Came next ∷ gives) early only some = refl
between-gives (Attached name done ∷ gives) early only some = refl
between-gives (Took l room bytes ∷ gives) early only some = refl
between-gives (Gave l piece went ∷ gives) early only some = refl
between-gives (Shut l ∷ gives) early only some = refl
between-gives (OnFile file c ∷ gives) early only some = refl
between-gives (Told t ∷ gives) early only some = absurd only
between-gives (Drew purpose bytes ∷ gives) early only some = absurd only

some_gives : (bytes : List ℕ) (gives : List Call) → sent 0 gives ≡ bytes → 0 < length bytes → 0 < length gives
some_gives bytes [] is some = omega (arith, ap (λ (z : List ℕ). length z) is, some)
some_gives bytes (c ∷ gives) is some = omega arith

module _ (endpoint key_file store : List ℕ) (was : History) (found : Found) where
  abbrev pub b : RunStart
  b = run_start (pipe_plan store key_file endpoint) was found

  -- what holds before these bytes are given
  pub record MayGiveAll (ms : List Mark) (owed : List ℕ) (calls : List Call) : Type 0 where
    pub each : AtEach (Answered b ms) calls
    pub owes : (line : ℕ) → due line b ms calls ≡ sent line calls ++ on_line 0 line owed
    pub keep : IsQuietStore was → (image : List ℕ × List ℕ) → IsImage (history b calls) image → KeepsAnswered b ms calls image
    pub sound : failed_on 0 calls ≡ false
    pub in_one : (k : ℕ) → (length (owed_to 0 b ms (take k (answered b.plan calls))) ≤ length (sent 0 calls))
        ⊎ (length (sent 0 calls) + length owed ≤ length (owed_to 0 b ms (take k (answered b.plan calls))))

  given_here : (ms : List Mark) (owed : List ℕ) (l : ℕ) (piece : List ℕ) (went : Option ℕ) (gives calls : List Call) → MayGiveAll ms owed calls → OnlyLeft 0 owed (Gave l piece went ∷ gives)
      → Answered b ms (Gave l piece went ∷ (gives ++ calls))
  given_here ms owed l piece went gives calls m only =
      let a = at_now (Answered b ms) calls m.each in
      let gave = only_gives 0 owed (Gave l piece went ∷ gives) only in
      let same : events b.plan (gives ++ calls) ≡ events b.plan calls = same_by_gives (events b.plan) (λ l piece went z. refl) 0 gives calls gave.1 in
      let rest = left_rest 0 owed (Gave l piece went ∷ gives) only in
      let as_before : (line : ℕ) → due line b ms (gives ++ calls) ≡ sent line calls ++ on_line 0 line owed =
      λ line. same_by_gives (due line b ms) (λ l piece went z. due_gave (store_failed z) true line b ms l piece went z) 0 gives calls gave.1 ∙ m.owes line in
      let shown : (line : ℕ) → due line b ms (Gave l piece went ∷ (gives ++ calls)) ≡ sent line (Gave l piece went ∷ (gives ++ calls)) ++ on_line 0 line rest.0 =
      λ line.
      due_gave (store_failed (gives ++ calls)) true line b ms l piece went (gives ++ calls)
      ∙ as_before line
      ∙ ap (λ z. sent line calls ++ on_line 0 line z) rest.1
      ∙ ap (λ z. sent line calls ++ z) (on_line-append 0 line (sent 0 (Gave l piece went ∷ gives)) rest.0 ∙ ap (λ z. z ++ on_line 0 line rest.0) (sym (sent_on line (Gave l piece went ∷ gives) gave)))
      ∙ sym (append_assoc (sent line calls) (sent line (Gave l piece went ∷ gives)) (on_line 0 line rest.0))
      ∙ ap (λ z. z ++ on_line 0 line rest.0) (sym (sent-append line (Gave l piece went ∷ gives) calls))
      in
      let sent_now : sent 0 (gives ++ calls) ≡ sent 0 calls ++ sent 0 gives = sent-append 0 gives calls in
      let next : due 0 b ms (gives ++ calls) ≡ sent 0 (gives ++ calls) ++ (piece ++ []) =
      as_before 0
      ∙ ap (λ z. sent 0 calls ++ z) only.0.left
      ∙ sym (append_assoc (sent 0 calls) (sent 0 gives) piece)
      ∙ ap (λ z. z ++ piece) (sym sent_now)
      ∙ ap (λ z. sent 0 (gives ++ calls) ++ z) (sym (append-nil piece))
      in
      let whole : failed_on 0 (gives ++ calls) ≡ false = failed_on-append 0 gives calls ∙ ap (λ f. f || failed_on 0 calls) only.0.sound ∙ m.sound in
      let answered_same : answered b.plan (gives ++ calls) ≡ answered b.plan calls = same_by_gives (answered b.plan) (λ l piece went z. answered_gave (store_failed z) b.plan l piece went z) 0 gives calls gave.1 in
      let in_turn : MayGive b ms 0 piece (gives ++ calls) = record {
        some = only.0.some;
        rest = [];
        next = next;
        in_one = λ k. rw answered_same (elim (m.in_one k) [
          | inl front ↦ inl (omega (arith, front, ap (λ (z : List ℕ). length z) sent_now, length-append (sent 0 calls) (sent 0 gives)))
          | inr later ↦ inr (omega (arith, later, ap (λ (z : List ℕ). length z) sent_now, length-append (sent 0 calls) (sent 0 gives), ap (λ (z : List ℕ). length z) only.0.left, length-append (sent 0 gives) piece))
        ]);
        full = is_full b (gives ++ calls) refl;
      } in
      let disks : Same (history b calls) (history b (Gave l piece went ∷ (gives ++ calls))) = same_gives 0 b (Gave l piece went ∷ gives) calls gave in
      let answered_now : answered b.plan (Gave l piece went ∷ (gives ++ calls)) ≡ answered b.plan calls = answered_gave (store_failed (gives ++ calls)) b.plan l piece went (gives ++ calls) ∙ answered_same in
      let synced : syncs (history b (gives ++ calls)).calls ≡ syncs (history b calls).calls = same_by_gives (λ z. syncs (history b z).calls) (λ l piece went z. refl) 0 gives calls gave.1 in
      record {
        within = rw same a.within;
        timed = rw (same_by_gives times (λ l piece went z. refl) 0 gives calls gave.1, same) a.timed;
        printed = λ line. (on_line 0 line rest.0, shown line);
        in_turn = subst (λ (k : ℕ). MayGive b ms k piece (gives ++ calls)) (sym only.0.of_line) in_turn;
        still = subst (λ (k : ℕ). failed_on k (gives ++ calls) ≡ false) (sym only.0.of_line) whole;
        safe = record {
          images = λ quiet image is.
              let k = m.keep quiet image (image_same (history b calls) (history b (Gave l piece went ∷ (gives ++ calls))) image disks is) in
              holds_answered b ms (Gave l piece went ∷ (gives ++ calls)) image refl (record {
                count = k.count;
                within = rw same k.within;
                keeps = rw same k.keeps;
                all = rw (answered_now, same) k.all;
              });
        };
        unasked = λ none. as_before_same was (history b calls) (history b (Gave l piece went ∷ (gives ++ calls))) disks synced (a.unasked (sym same ∙ none));
        few_syncs = rw (synced, same_by_gives settles (λ l piece went z. refl) 0 gives calls gave.1, renewals-gives 0 gives calls gave.1) a.few_syncs;
        renewed = renewed_on b calls (Gave l piece went ∷ (gives ++ calls)) (renewals-gives 0 gives calls gave.1) disks a.renewed;
      }

  pub given_each : (ms : List Mark) (owed : List ℕ) (gives calls : List Call) → MayGiveAll ms owed calls → OnlyLeft 0 owed gives → AtEach (Answered b ms) (gives ++ calls)
  given_each ms owed [] calls m only = m.each
  given_each ms owed (Text name room bytes ∷ gives) calls m only = absurd only
  given_each ms owed (Listened address done ∷ gives) calls m only = absurd only
  given_each ms owed (Came line ∷ gives) calls m only = absurd only
  given_each ms owed (Attached name done ∷ gives) calls m only = absurd only
  given_each ms owed (Took l room bytes ∷ gives) calls m only = absurd only
  given_each ms owed (Gave l piece went ∷ gives) calls m only = (given_here ms owed l piece went gives calls m only, given_each ms owed gives calls m only.1)
  given_each ms owed (Shut l ∷ gives) calls m only = absurd only
  given_each ms owed (OnFile file c ∷ gives) calls m only = absurd only
  given_each ms owed (Told t ∷ gives) calls m only = absurd only
  given_each ms owed (Drew purpose bytes ∷ gives) calls m only = absurd only

  -- ---- a reply is given

  module _ (s : Serving) (stand : After) (reply : List ℕ) (x y : List Call) (r : IsReplying b s stand reply x) where
    abbrev pub ms : List Mark
    ms = r.giving.marks

    may_give : MayGiveAll ms reply x
    may_give = record {
      each = r.giving.giving.each;
      owes = λ line. ap (λ z. due_if z true line b ms x) r.giving.giving.unfailed ∙ r.giving.giving.owes line tt;
      keep = giving_keep b ms reply x r.giving.giving;
      sound = r.giving.line.sound;
      in_one = r.one.in_one;
    }

    module _ (only : OnlyLeft 0 reply y) where
      gave : OnlyGives 0 y
      gave = only_gives 0 reply y only

      same : events b.plan (y ++ x) ≡ events b.plan x
      same = same_by_gives (events b.plan) (λ l piece went z. refl) 0 y x gave

      disks : Same (history b x) (history b (y ++ x))
      disks = same_gives 0 b y x gave

      settled_then : IsSettled b.masters s.engine (b.steps + steps_by b.first (events b.plan (y ++ x)) ms) (course_by b.first (events b.plan (y ++ x)) ms).state (history b (y ++ x))
      settled_then = rw same (settled_same s.engine (b.steps + steps_by b.first (events b.plan x) ms) (course_by b.first (events b.plan x) ms).state (history b x) (history b (y ++ x)) disks r.giving.settled)

      quiet_then : IsQuietStore was → IsQuietStore (history b (y ++ x))
      quiet_then quiet = quiet_same (history b x) (history b (y ++ x)) disks (r.giving.quiet quiet)

      unfailed_then : store_failed (y ++ x) ≡ false
      unfailed_then = store_failed-gives 0 y x gave ∙ r.giving.giving.unfailed

      above_then : IsAbove b s.engine (y ++ x)
      above_then = above_on b s.engine x (y ++ x) (renewals-gives 0 y x gave) r.giving.above

      pub given_all : sent 0 y ≡ reply → failed_on 0 y ≡ false → 0 < length reply → IsGiven b s stand (y ++ x)
      given_all whole sound some =
          let l = r.giving.line in
          let g = r.giving.giving in
          let bytes : taken 0 (y ++ x) ≡ taken 0 x = taken-gives 0 0 y x gave in
          let owes : (line : ℕ) → replies line endpoint b.first (events b.plan (y ++ x)) ms ≡ sent line (y ++ x) ++ on_line 0 line [] =
          λ line.
          ap (λ (es : List LineEvent). replies line endpoint b.first es ms) same
          ∙ g.owes line tt
          ∙ ap (λ z. sent line x ++ on_line 0 line z) (sym whole)
          ∙ ap (λ z. sent line x ++ z) (sym (sent_on line y gave))
          ∙ sym (sent-append line y x)
          ∙ sym (append-nil (sent line (y ++ x)))
          ∙ ap (λ z. sent line (y ++ x) ++ z) (sym (on_line-nil 0 line)) in
          record {
            giving = record {
              marks = ms;
              giving = record {
                each = given_each ms reply y x may_give only;
                are_marks = marks-gives b ms y x gave g.are_marks;
                few = λ line. omega (arith, ap (λ (z : List ℕ). length z) (owes line), length-append (sent line (y ++ x)) (on_line 0 line []));
                owes = λ line alive. owes line;
                keeps = images_keep b ms (events b.plan (y ++ x)) (y ++ x) quiet_then (settled_keeps b ms (events b.plan (y ++ x)) s.engine (history b (y ++ x)) settled_then);
                unfailed = unfailed_then;
              };
              line = record {
                counted = rw same l.counted;
                held = rw bytes l.held;
                stops = stops_same stand bytes l.stops;
                place = rw bytes l.place;
                unfinished = at_end-gives 0 0 y x gave ∙ l.unfinished;
                sound = failed_on-append 0 y x ∙ ap (λ f. f || failed_on 0 x) sound ∙ l.sound;
                unshut = is_shut-gives 0 0 y x gave ∙ l.unshut;
                keyed = same_by_gives key_file_failed (λ l piece went z. refl) 0 y x gave ∙ l.keyed;
              };
              quiet = quiet_then;
              above = above_then;
              masters = r.giving.masters;
              settled = settled_then;
            };
            between = between-gives y x gave (some_gives reply y whole some);
          }
        where
          stops_same : (stand : After) → taken 0 (y ++ x) ≡ taken 0 x → StopsAt most stand s x → StopsAt most stand s (y ++ x)
          stops_same (Going rest) bytes h = tt
          stops_same Over bytes h = tt
          stops_same Broken bytes h = (h.0, h.1, h.2, rw bytes h.3, h.4)

      -- a call failed while it was given
      pub ended_giving : EndsFailed 0 y → EndedAt b status.LinkFault (y ++ x)
      ended_giving fails =
          let keeps = settled_keeps b ms (events b.plan (y ++ x)) s.engine (history b (y ++ x)) settled_then in
          record {
            marks = ms;
            each = given_each ms reply y x may_give only;
            are_marks = marks-gives b ms y x gave r.giving.giving.are_marks;
            end = (
              tt,
              fails-append 0 y x fails,
              record { keeps = keeps; quiet = quiet_then; images = images_keep b ms (events b.plan (y ++ x)) (y ++ x) quiet_then keeps; unfailed = unfailed_then; renewed = all_renewed b s.engine (b.steps + steps_by b.first (events b.plan (y ++ x)) ms) (course_by b.first (events b.plan (y ++ x)) ms).state (y ++ x) above_then settled_then },
              at_end-gives 0 0 y x gave ∙ r.giving.line.unfinished,
            );
          }

  -- ---- the fault of the store was given, or a call failed while it was

  pub ended_faulted : (owed : List ℕ) (x y : List Call) → FaultingAt b owed x → GivesFault owed y → EndedAt b status.StoreFault (y ++ x)
  ended_faulted owed x y f g =
      let gave = only_gives 0 owed y g.only in
      let may : MayGiveAll f.marks owed x = record {
        each = f.each;
        owes = f.owes;
        keep = f.keep;
        sound = f.sound;
        in_one = λ k. inl (f.before k);
      } in
      record {
        marks = f.marks;
        each = given_each f.marks owed y x may g.only;
        are_marks = marks-gives b f.marks y x gave f.are_marks;
        end = (
          record {
            failed = store_failed-gives 0 y x gave ∙ f.failed;
            given = elim g.given [
              | inl whole ↦ inl (λ line alive.
                  sent-append line y x
                  ∙ ap (λ z. sent line x ++ z) (sent_on line y gave)
                  ∙ ap (λ z. sent line x ++ on_line 0 line z) whole.0
                  ∙ sym (f.owes line)
                  ∙ sym (same_by_gives (due line b f.marks) (λ l piece went z. due_gave (store_failed z) true line b f.marks l piece went z) 0 y x gave))
              | inr fails ↦ inr (fails-append 0 y x fails)
            ];
          },
          at_end-gives 0 0 y x gave ∙ f.unfinished,
        );
      }
