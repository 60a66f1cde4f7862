-- Bytes are taken from line 0, and it is shut; and how the run ends then.
use Rattle.std.proofs.Common.{List, None, Option, Some, [], ap, arith, false, inl, inr, length, length-append, refl, suc, sym, take, true, zero, ℕ, ◌++◌, ◌+◌, ◌<◌, ◌∙◌, ◌∷◌, ◌≡◌, ◌≤◌}
use Rattle.std.proofs.lemmas.List.{append-nil}
use Rattle.kms_host.proofs.Moments.{at_now}
use Rattle.kms_host.specs.Disk.{IsImage, files}
use Rattle.kms_host.specs.History.{History}
use Rattle.kms_host.specs.Line.{is_empty, is_shut, sent, taken}
use Rattle.kms_host.specs.Moment.{AtEach}
use Rattle.kms_host.specs.declared.call.Call.{Call}
use Rattle.kms_host.specs.declared.call.Call.TheVariants.{Shut, Took}
use Rattle.kms_http.proofs.MessageStreamLaws.{after-more}
use Rattle.kms_http.specs.MessageStream.{After, after}
use Rattle.kms_http.specs.MessageStream.After.{Broken, Going, Over}
use Rattle.kms_http.specs.Messages.{front}
use Rattle.kms_http.specs.Messages.Front.{Part}
use Rattle.kms_http.specs.Reading.{Reading}
use Rattle.kms_journal.specs.Device.{IsQuietStore}
use Rattle.kms_model.specs.Course.{Mark}
use Rattle.kms_serve.proofs.BatchLaws.{no_batch}
use Rattle.kms_serve.proofs.CrashLaws.{Same, as_before_same, holds_all, images_keep, quiet_same, same_shut, same_then, same_took, settled_keeps, settled_same}
use Rattle.kms_serve.proofs.GiveLaws.{on_line-nil}
use Rattle.kms_serve.proofs.RenewalLaws.{above_on, all_renewed, renewed_on}
use Rattle.kms_serve.specs.Allowed.{IsServed}
use Rattle.kms_serve.specs.Answered.{Answered}
use Rattle.kms_serve.specs.Crash.{IsSafe, KeepsAfter}
use Rattle.kms_serve.specs.Ends.{AllGiven, AllKept}
use Rattle.kms_serve.specs.Events.{LineEvent, events, requests_on}
use Rattle.kms_serve.specs.Marks.{AreMarks}
use Rattle.kms_serve.specs.Owing.{EndedAt, GoodAt, IsAtLine, IsGiven, IsGiving}
use Rattle.kms_serve.specs.Plan.{most, pipe_plan, replies_on_lines}
use Rattle.kms_serve.specs.Plan.Command.{Pipe}
use Rattle.kms_serve.specs.Renewals.{renewals}
use Rattle.kms_serve.specs.Replies.{course_by, answered_if, due, due_if, replies, steps_by}
use Rattle.kms_serve.specs.RunStart.{Found, RunStart, history, run_start}
use Rattle.kms_serve.specs.StoreCalls.{store_failed}
use Rattle.kms_serve.specs.declared.serving.Serving.{Serving}
use Rattle.kms_serve.specs.declared.status.Status.TheVariants as status

-- what is due where no call of the store failed
pub due_unfailed : (line : ℕ) (b : RunStart) (ms : List Mark) (calls : List Call) → replies_on_lines b.plan.command ≡ true → store_failed calls ≡ false
    → due line b ms calls ≡ replies line b.plan.endpoint b.first (events b.plan calls) ms
due_unfailed line b ms calls on unfailed = ap (λ z. due_if z (replies_on_lines b.plan.command) line b ms calls) unfailed ∙ ap (λ z. due_if false z line b ms calls) on

-- what keeps all events is safe, whatever was sent
pub safe_all : (b : RunStart) (ms : List Mark) (calls : List Call) → store_failed calls ≡ false
    → (IsQuietStore b.was → (image : List ℕ × List ℕ) → IsImage (history b calls) image → KeepsAfter b ms (events b.plan calls) image) → IsSafe b ms calls
safe_all b ms calls unfailed keeps = record {
  images = λ quiet image is.
      holds_all b ms [] calls image (sym (append-nil (events b.plan calls)) ∙ ap (λ z. answered_if z b.plan calls ++ []) (sym unfailed)) (keeps quiet image is);
}

-- a take of at least one byte
pub filled_take : (n : ℕ) (room : List ℕ) → 0 < n → n ≤ length room → is_empty (take n room) ≡ false
filled_take zero room some fits = absurd (omega arith)
filled_take (suc n) [] some fits = absurd (omega arith)
filled_take (suc n) (b ∷ room) some fits = refl

module _ (endpoint key_file store : List ℕ) (was : History) (found : Found) where
  abbrev pub b : RunStart
  b = run_start (pipe_plan store key_file endpoint) was found

  -- where nothing is owed, all that is due was given
  pub all_given : (s : Serving) (stand : After) (calls : List Call) → (g : IsGiving b s stand [] calls) → (line : ℕ) → sent line calls ≡ replies line endpoint b.first (events b.plan calls) g.marks
  all_given s stand calls g line = sym (g.giving.owes line tt ∙ ap (λ z. sent line calls ++ z) (on_line-nil 0 line) ∙ append-nil (sent line calls))

  given_due : (s : Serving) (stand : After) (calls : List Call) → (g : IsGiving b s stand [] calls) → AllGiven b g.marks calls
  given_due s stand calls g = λ line alive. all_given s stand calls g line ∙ sym (due_unfailed line b g.marks calls refl g.giving.unfailed)

  -- the same of calls that leave the store, the events and what was sent
  kept_then : (s : Serving) (stand : After) (calls now : List Call) → (g : IsGiving b s stand [] calls) → Same (history b calls) (history b now) → events b.plan now ≡ events b.plan calls → KeepsAfter b g.marks (events b.plan now) (files (history b now))
  kept_then s stand calls now g disks same =
      settled_keeps b g.marks (events b.plan now) s.engine (history b now)
      (rw same (settled_same s.engine (b.steps + steps_by b.first (events b.plan calls) g.marks) (course_by b.first (events b.plan calls) g.marks).state (history b calls) (history b now) disks g.settled))

  all_kept : (s : Serving) (stand : After) (calls now : List Call) → (g : IsGiving b s stand [] calls) → Same (history b calls) (history b now) → events b.plan now ≡ events b.plan calls → store_failed now ≡ false
      → renewals now ≡ renewals calls → AllKept b g.marks now
  all_kept s stand calls now g disks same unfailed renewed =
      let quiet : IsQuietStore was → IsQuietStore (history b now) = λ quiet. quiet_same (history b calls) (history b now) disks (g.quiet quiet) in
      let keeps = kept_then s stand calls now g disks same in
      record { keeps = keeps; quiet = quiet; images = images_keep b g.marks (events b.plan now) now quiet keeps; unfailed = unfailed; renewed = all_renewed b s.engine (b.steps + steps_by b.first (events b.plan calls) g.marks) (course_by b.first (events b.plan calls) g.marks).state now (above_on b s.engine calls now renewed g.above) (settled_same s.engine (b.steps + steps_by b.first (events b.plan calls) g.marks) (course_by b.first (events b.plan calls) g.marks).state (history b calls) (history b now) disks g.settled) }

  -- ---- the line is shut

  shut_answered : (s : Serving) (stand : After) (calls before : List Call) → (g : IsGiving b s stand [] before) → Same (history b before) (history b calls) → events b.plan calls ≡ events b.plan before
      → is_shut 0 calls ≡ false → sent 0 calls ≡ replies 0 endpoint b.first (events b.plan calls) g.marks → IsServed Pipe 0 (events b.plan calls) calls → store_failed calls ≡ false
      → AtEach (Answered b g.marks) calls → AtEach (Answered b g.marks) (Shut 0 ∷ calls)
  shut_answered s stand calls before g disks same once given over unfailed each =
      let a = at_now (Answered b g.marks) calls each in
      let disks_then : Same (history b before) (history b (Shut 0 ∷ calls)) = same_then (history b before) (history b calls) (history b (Shut 0 ∷ calls)) disks (same_shut (history b calls) 0) in
      let quiet : IsQuietStore was → IsQuietStore (history b (Shut 0 ∷ calls)) = λ quiet. quiet_same (history b before) (history b (Shut 0 ∷ calls)) disks_then (g.quiet quiet) in (
        record {
          within = a.within;
          timed = a.timed;
          printed = λ line.
              let p = a.printed line in
              (p.0, due_unfailed line b g.marks (Shut 0 ∷ calls) refl unfailed ∙ sym (due_unfailed line b g.marks calls refl unfailed) ∙ p.1);
          in_turn = record { there = tt; of_line = refl; once = once; over = inl (given, over); unfailed = unfailed };
          still = tt;
          safe = safe_all b g.marks (Shut 0 ∷ calls) unfailed (images_keep b g.marks (events b.plan calls) (Shut 0 ∷ calls) quiet (kept_then s stand before (Shut 0 ∷ calls) g disks_then same));
          unasked = λ none. as_before_same was (history b calls) (history b (Shut 0 ∷ calls)) (same_shut (history b calls) 0) refl (a.unasked none);
          few_syncs = a.few_syncs;
          renewed = renewed_on b calls (Shut 0 ∷ calls) refl (same_shut (history b calls) 0) a.renewed;
        },
        each,
      )

  shut_marks : (ms : List Mark) (calls : List Call) → AreMarks b ms calls → AreMarks b ms (Shut 0 ∷ calls)
  shut_marks ms calls m = record { marked = m.marked; fit = m.fit; keys = m.keys; few = m.few }

  same_all : (calls : List Call) → Same (history b calls) (history b calls)
  same_all calls = record { disk = λ f. refl; attached = refl }

  stands_at : (s : Serving) (stand : After) (calls : List Call) → IsAtLine b s stand calls → after most (requests_on 0 (events b.plan calls)) (taken 0 calls) ≡ Some stand
  stands_at s stand calls l = ap (λ n. after most n (taken 0 calls)) (sym l.counted) ∙ l.held

  -- the last message of the line was answered
  pub ended_over : (s : Serving) (calls : List Call) → IsGiven b s Over calls → EndedAt b status.Done (Shut 0 ∷ calls)
  ended_over s calls given =
      let g = given.giving in
      let over = stands_at s Over calls g.line in
      record {
        marks = g.marks;
        each = shut_answered s Over calls calls g (same_all calls) refl g.line.unshut (all_given s Over calls g 0) (inr (inl over)) g.giving.unfailed g.giving.each;
        are_marks = shut_marks g.marks calls g.giving.are_marks;
        end = (
          λ line alive. all_given s Over calls g line ∙ sym (due_unfailed line b g.marks (Shut 0 ∷ calls) refl g.giving.unfailed),
          all_kept s Over calls (Shut 0 ∷ calls) g (same_shut (history b calls) 0) refl g.giving.unfailed refl,
          inr over,
          refl,
        );
      }

  -- what is no message was refused
  pub ended_refused : (s : Serving) (calls : List Call) → IsGiven b s Broken calls → EndedAt b (status.Unreadable s.reader.passed) (Shut 0 ∷ calls)
  ended_refused s calls given =
      let g = given.giving in
      let stops = g.line.stops in
      record {
        marks = g.marks;
        each = shut_answered s Broken calls calls g (same_all calls) refl g.line.unshut (all_given s Broken calls g 0) (inr (inr (stands_at s Broken calls g.line))) g.giving.unfailed g.giving.each;
        are_marks = shut_marks g.marks calls g.giving.are_marks;
        end = (
          tt,
          λ line alive. all_given s Broken calls g line ∙ sym (due_unfailed line b g.marks (Shut 0 ∷ calls) refl g.giving.unfailed),
          all_kept s Broken calls (Shut 0 ∷ calls) g (same_shut (history b calls) 0) refl g.giving.unfailed refl,
          record { before = stops.0; rest = s.reader.held; last = sym g.line.counted ∙ stops.2; held = stops.3; refusal = stops.1; bad = stops.4; at = g.line.place },
          refl,
        );
      }

  -- ---- bytes are taken

  module _ (s : Serving) (n : ℕ) (bytes : Option (List ℕ)) (calls : List Call) (size : n ≡ 65536) (part : front s.reader.held ≡ Part) (good : GoodAt b s calls) where
    abbrev pub g : IsGiving b s (Going s.reader.held) [] calls
    g = good.giving

    abbrev pub took : List Call
    took = Took 0 n bytes ∷ calls

    quiet_took : IsQuietStore was → IsQuietStore (history b took)
    quiet_took quiet = quiet_same (history b calls) (history b took) (same_took (history b calls) 0 n bytes) (g.quiet quiet)

    keeps_took : IsQuietStore was → (image : List ℕ × List ℕ) → IsImage (history b took) image → KeepsAfter b g.marks (events b.plan calls) image
    keeps_took = images_keep b g.marks (events b.plan calls) took quiet_took (kept_then s (Going s.reader.held) calls took g (same_took (history b calls) 0 n bytes) refl)

    pub took_each : AtEach (Answered b g.marks) took
    took_each =
        let a = at_now (Answered b g.marks) calls g.giving.each in (
          record {
            within = a.within;
            timed = a.timed;
            printed = λ line.
                let p = a.printed line in
                (p.0, due_unfailed line b g.marks took refl g.giving.unfailed ∙ sym (due_unfailed line b g.marks calls refl g.giving.unfailed) ∙ p.1);
            in_turn = record {
              there = tt;
              of_line = refl;
              of_size = size;
              unshut = g.line.unshut;
              unended = g.line.unfinished;
              given = all_given s (Going s.reader.held) calls g 0;
              rest = s.reader.held;
              goes_on = stands_at s (Going s.reader.held) calls g.line;
              part = part;
              unfailed = g.giving.unfailed;
            };
            still = g.line.sound;
            safe = safe_all b g.marks took g.giving.unfailed keeps_took;
            unasked = λ none. as_before_same was (history b calls) (history b took) (same_took (history b calls) 0 n bytes) refl (a.unasked none);
            few_syncs = a.few_syncs;
            renewed = renewed_on b calls took refl (same_took (history b calls) 0 n bytes) a.renewed;
          },
          g.giving.each,
        )

    pub took_marks : AreMarks b g.marks took
    took_marks = let m = g.giving.are_marks in record { marked = m.marked; fit = m.fit; keys = m.keys; few = m.few }

    pub took_kept : AllKept b g.marks took
    took_kept = all_kept s (Going s.reader.held) calls took g (same_took (history b calls) 0 n bytes) refl g.giving.unfailed refl

  -- more bytes came
  pub good_took : (s t : Serving) (n : ℕ) (bytes : List ℕ) (calls : List Call) → n ≡ 65536 → t.engine ≡ s.engine → t.count ≡ s.count
      → t.reader ≡ record { held = s.reader.held ++ bytes; passed = s.reader.passed } → front s.reader.held ≡ Part → is_empty bytes ≡ false → GoodAt b s calls → GoodAt b t (Took 0 n (Some bytes) ∷ calls)
  good_took s t n bytes calls size engine count reader part filled good =
      let g = good.giving in
      let held : t.reader.held ≡ s.reader.held ++ bytes = ap (λ (r : Reading). r.held) reader in
      let passed : t.reader.passed ≡ s.reader.passed = ap (λ (r : Reading). r.passed) reader in
      let took = Took 0 n (Some bytes) ∷ calls in
      record {
        giving = record {
          marks = g.marks;
          giving = record {
            each = took_each s n (Some bytes) calls size part good;
            are_marks = took_marks s n (Some bytes) calls size part good;
            few = g.giving.few;
            owes = g.giving.owes;
            keeps = keeps_took s n (Some bytes) calls size part good;
            unfailed = g.giving.unfailed;
          };
          line = record {
            counted = count ∙ g.line.counted;
            held = rw (count, held) (after-more most s.count (taken 0 calls) bytes s.reader.held g.line.held);
            stops = tt;
            place = rw (held, passed) (omega (arith, length-append s.reader.held bytes, length-append (taken 0 calls) bytes, g.line.place));
            unfinished = rw (filled, g.line.unfinished) refl;
            sound = g.line.sound;
            unshut = g.line.unshut;
            keyed = g.line.keyed;
          };
          quiet = quiet_took s n (Some bytes) calls size part good;
          above = rw engine g.above;
          masters = rw engine g.masters;
          settled = rw engine (settled_same s.engine (b.steps + steps_by b.first (events b.plan calls) g.marks) (course_by b.first (events b.plan calls) g.marks).state (history b calls) (history b took) (same_took (history b calls) 0 n (Some bytes)) g.settled);
        };
        between = refl;
      }

  -- out of memory between two turns
  pub ended_out_of_memory : (s : Serving) (calls : List Call) → GoodAt b s calls → EndedAt b status.NoMemory calls
  ended_out_of_memory s calls good =
      let g = good.giving in
      record {
        marks = g.marks;
        each = g.giving.each;
        are_marks = g.giving.are_marks;
        end = (
          (
            record {
              given = λ line alive. all_given s (Going s.reader.held) calls g line ∙ ap (λ (es : List LineEvent). replies line endpoint b.first es g.marks) (sym (no_batch b.plan calls good.between));
              room = omega (arith, good.between);
            },
            (s.reader.held, stands_at s (Going s.reader.held) calls g.line),
            g.line.unfinished,
            g.line.sound,
          ),
          g.giving.unfailed,
          g.line.keyed,
        );
      }

  -- out of memory for the bytes that came
  pub ended_took_out_of_memory : (s : Serving) (n : ℕ) (bytes : List ℕ) (calls : List Call) → n ≡ 65536 → front s.reader.held ≡ Part → is_empty bytes ≡ false → GoodAt b s calls
      → EndedAt b status.NoMemory (Took 0 n (Some bytes) ∷ calls)
  ended_took_out_of_memory s n bytes calls size part filled good =
      let g = good.giving in
      record {
        marks = g.marks;
        each = took_each s n (Some bytes) calls size part good;
        are_marks = took_marks s n (Some bytes) calls size part good;
        end = (
          (
            record { given = λ line alive. all_given s (Going s.reader.held) calls g line; room = omega arith },
            (s.reader.held ++ bytes, ap (λ k. after most k (taken 0 calls ++ bytes)) (sym g.line.counted) ∙ after-more most s.count (taken 0 calls) bytes s.reader.held g.line.held),
            rw (filled, g.line.unfinished) refl,
            g.line.sound,
          ),
          g.giving.unfailed,
          g.line.keyed,
        );
      }

  -- taking failed
  pub ended_took_fault : (s : Serving) (n : ℕ) (calls : List Call) → n ≡ 65536 → front s.reader.held ≡ Part → GoodAt b s calls → EndedAt b status.LinkFault (Took 0 n None ∷ calls)
  ended_took_fault s n calls size part good = record {
    marks = good.giving.marks;
    each = took_each s n None calls size part good;
    are_marks = took_marks s n None calls size part good;
    end = (tt, refl, took_kept s n None calls size part good, good.giving.line.unfinished);
  }

  -- the line ended after a message, or inside one
  shut_after : (s : Serving) (n : ℕ) (bytes : List ℕ) (calls : List Call) → n ≡ 65536 → bytes ≡ [] → front s.reader.held ≡ Part → (good : GoodAt b s calls)
      → AtEach (Answered b good.giving.marks) (Shut 0 ∷ Took 0 n (Some bytes) ∷ calls)
  shut_after s n bytes calls size none part good =
      let g = good.giving in
      shut_answered s (Going s.reader.held) (Took 0 n (Some bytes) ∷ calls) calls g (same_took (history b calls) 0 n (Some bytes)) refl g.line.unshut (all_given s (Going s.reader.held) calls g 0) (inl (rw none refl))
      g.giving.unfailed (took_each s n (Some bytes) calls size part good)

  kept_after : (s : Serving) (n : ℕ) (bytes : Option (List ℕ)) (calls : List Call) → (good : GoodAt b s calls) → AllKept b good.giving.marks (Shut 0 ∷ Took 0 n bytes ∷ calls)
  kept_after s n bytes calls good =
      all_kept s (Going s.reader.held) calls (Shut 0 ∷ Took 0 n bytes ∷ calls) good.giving
      (same_then (history b calls) (history b (Took 0 n bytes ∷ calls)) (history b (Shut 0 ∷ Took 0 n bytes ∷ calls)) (same_took (history b calls) 0 n bytes) (same_shut (history b (Took 0 n bytes ∷ calls)) 0))
      refl good.giving.giving.unfailed refl

  marks_after_take : (s : Serving) (n : ℕ) (bytes : Option (List ℕ)) (calls : List Call) → (good : GoodAt b s calls) → AreMarks b good.giving.marks (Shut 0 ∷ Took 0 n bytes ∷ calls)
  marks_after_take s n bytes calls good = let m = good.giving.giving.are_marks in record { marked = m.marked; fit = m.fit; keys = m.keys; few = m.few }

  given_after : (s : Serving) (n : ℕ) (bytes : Option (List ℕ)) (calls : List Call) → (good : GoodAt b s calls) → AllGiven b good.giving.marks (Shut 0 ∷ Took 0 n bytes ∷ calls)
  given_after s n bytes calls good = λ line alive.
      all_given s (Going s.reader.held) calls good.giving line ∙ sym (due_unfailed line b good.giving.marks (Shut 0 ∷ Took 0 n bytes ∷ calls) refl good.giving.giving.unfailed)

  pub ended_clean : (s : Serving) (n : ℕ) (bytes : List ℕ) (calls : List Call) → n ≡ 65536 → bytes ≡ [] → s.reader.held ≡ [] → front s.reader.held ≡ Part → GoodAt b s calls
      → EndedAt b status.Done (Shut 0 ∷ Took 0 n (Some bytes) ∷ calls)
  ended_clean s n bytes calls size none empty part good =
      let g = good.giving in
      let stream : taken 0 calls ++ bytes ≡ taken 0 calls = ap (λ z. taken 0 calls ++ z) none ∙ append-nil (taken 0 calls) in
      record {
        marks = g.marks;
        each = shut_after s n bytes calls size none part good;
        are_marks = marks_after_take s n (Some bytes) calls good;
        end = (
          given_after s n (Some bytes) calls good,
          kept_after s n (Some bytes) calls good,
          inl (rw none refl, rw (stream, ← g.line.counted) (g.line.held ∙ ap (λ z. Some (Going z)) empty)),
          refl,
        );
      }

  pub ended_rest : (s : Serving) (n : ℕ) (bytes : List ℕ) (calls : List Call) → n ≡ 65536 → bytes ≡ [] → 0 < length s.reader.held → front s.reader.held ≡ Part → GoodAt b s calls
      → EndedAt b (status.Rest s.reader.passed) (Shut 0 ∷ Took 0 n (Some bytes) ∷ calls)
  ended_rest s n bytes calls size none some part good =
      let g = good.giving in
      let stream : taken 0 calls ++ bytes ≡ taken 0 calls = ap (λ z. taken 0 calls ++ z) none ∙ append-nil (taken 0 calls) in
      record {
        marks = g.marks;
        each = shut_after s n bytes calls size none part good;
        are_marks = marks_after_take s n (Some bytes) calls good;
        end = (
          tt,
          given_after s n (Some bytes) calls good,
          kept_after s n (Some bytes) calls good,
          record { rest = s.reader.held; ended = rw none refl; held = rw (stream, ← g.line.counted) g.line.held; part = part; some = some; at = rw stream g.line.place },
          refl,
        );
      }
