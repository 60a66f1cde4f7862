-- Replies are given: what the program keeps holds again.
use Rattle.std.proofs.Common.{Bool, List, None, Option, Some, [], ap, append_assoc, arith, cond, drop, eq-eqb, false, length, length-append, nat_eq, refl, subst, sym, take, true, ℕ, ◌++◌, ◌+◌, ◌<◌, ◌∙◌, ◌∷◌, ◌≡◌, ◌≤◌, ◌⊎◌}
use Rattle.std.proofs.lemmas.Bool.{eqb-true}
use Rattle.std.proofs.lemmas.List.{append-nil, take-append-drop}
use Rattle.kms_host.proofs.Moments.{at_now}
use Rattle.kms_host.specs.Line.{failed_on, sent}
use Rattle.kms_host.specs.declared.call.Call.{Call}
use Rattle.kms_host.specs.declared.call.Call.TheVariants.{Gave}
use Rattle.kms_model.specs.Course.{Mark}
use Rattle.kms_serve.proofs.BatchLaws.{no_batch}
use Rattle.kms_serve.proofs.CrashLaws.{holds_all, same_gave}
use Rattle.kms_serve.proofs.GiveLaws.{on_line-nil}
use Rattle.kms_serve.proofs.RenewalLaws.{renewed_on}
use Rattle.kms_serve.specs.Allowed.{IsFull}
use Rattle.kms_serve.specs.Answered.{Answered}
use Rattle.kms_serve.specs.Batches.{in_batch}
use Rattle.kms_serve.specs.Crash.{IsSafe, KeepsAfter}
use Rattle.kms_serve.specs.Events.{LineEvent, events}
use Rattle.kms_serve.specs.Owing.{GivingAt, OwingAt, on_line}
use Rattle.kms_serve.specs.Plan.{Command, IsAlive, line_now, replies_on_lines}
use Rattle.kms_serve.specs.Plan.Command.{Check, Pipe, Serve}
use Rattle.kms_serve.specs.Replies.{answered, answered_if, due, due_if, owed_to, replies}
use Rattle.kms_serve.specs.RunStart.{RunStart, history}
use Rattle.kms_serve.specs.StoreCalls.{store_failed}

-- A piece of what is owed is given, or a prefix of it, or the call fails: the theorem holds behind it.
module _ (b : RunStart) (ms : List Mark) (line : ℕ) (piece rest : List ℕ) (went : Option ℕ) (x : List Call) (g : GivingAt b ms (piece ++ rest) x) where
  pub gave_sent : (l : ℕ) → nat_eq line l ≡ false → sent l (Gave line piece went ∷ x) ≡ sent l x
  gave_sent l other = either went
    where
      either : (w : Option ℕ) → sent l (Gave line piece w ∷ x) ≡ sent l x
      either None = refl
      either (Some n) = ap (λ z. cond z (sent l x ++ take n piece) (sent l x)) other

  gave_here : (l : ℕ) → nat_eq line l ≡ true → (w : Option ℕ) → (more : List ℕ) × (sent l x ++ (piece ++ rest) ≡ sent l (Gave line piece w ∷ x) ++ more)
  gave_here l this None = (piece ++ rest, refl)
  gave_here l this (Some n) =
      let now : sent l (Gave line piece (Some n) ∷ x) ≡ sent l x ++ take n piece = ap (λ z. cond z (sent l x ++ take n piece) (sent l x)) this in (
        drop n piece ++ rest,
        ap (λ (z : List ℕ). sent l x ++ (z ++ rest)) (sym (take-append-drop n piece))
            ∙ ap (λ (z : List ℕ). sent l x ++ z) (append_assoc (take n piece) (drop n piece) rest)
            ∙ sym (append_assoc (sent l x) (take n piece) (drop n piece ++ rest))
            ∙ ap (λ (z : List ℕ). z ++ (drop n piece ++ rest)) (sym now),
      )

  due_here : replies_on_lines b.plan.command ≡ true → line ≡ line_now b.plan.command x → IsAlive b.plan.command line x → due line b ms x ≡ sent line x ++ (piece ++ rest)
  due_here on this alive =
      ap (λ z. due_if z (replies_on_lines b.plan.command) line b ms x) g.unfailed
      ∙ ap (λ z. due_if false z line b ms x) on
      ∙ ap (λ z. cond z (replies line b.plan.endpoint b.first (events b.plan x) ms) []) (sym on)
      ∙ g.owes line alive
      ∙ ap (λ z. sent line x ++ z) (here this)
    where
      here : line ≡ line_now b.plan.command x → on_line (line_now b.plan.command x) line (piece ++ rest) ≡ piece ++ rest
      here this = ap (λ k. on_line k line (piece ++ rest)) (sym this) ∙ ap (λ z. cond z (piece ++ rest) []) (eq-eqb line line refl)

  gave_safe : IsSafe b ms (Gave line piece went ∷ x)
  gave_safe = record {
    images = λ quiet image is.
        let k = g.keeps quiet image (record { file_0 = is.file_0; file_1 = is.file_1 }) in
        holds_all b ms [] (Gave line piece went ∷ x) image
        (sym (append-nil (events b.plan x)) ∙ ap (λ z. answered_if z b.plan (Gave line piece went ∷ x) ++ []) (sym g.unfailed))
        k;
  }

  due_gave : (failed on : Bool) (l : ℕ) → due_if failed on l b ms x ≡ due_if failed on l b ms (Gave line piece went ∷ x)
  due_gave false true l = refl
  due_gave true true l = refl
  due_gave false false l = refl
  due_gave true false l = refl

  pub gave_answered : replies_on_lines b.plan.command ≡ true → line ≡ line_now b.plan.command x → failed_on line x ≡ false → IsAlive b.plan.command line x → 0 < length piece
      → ((k : ℕ) → (length (owed_to line b ms (take k (answered b.plan x))) ≤ length (sent line x)) ⊎ (length (sent line x) + length piece ≤ length (owed_to line b ms (take k (answered b.plan x)))))
      → IsFull b x → Answered b ms (Gave line piece went ∷ x)
  gave_answered on this sound alive some in_one full =
      let a = at_now (Answered b ms) x g.each in
      record {
        within = a.within;
        timed = a.timed;
        printed = λ l. printed_gave l (nat_eq line l) refl (a.printed l);
        in_turn = record { some = some; rest = rest; next = due_here on this alive; in_one = in_one; full = full };
        still = sound;
        safe = gave_safe;
        unasked = λ none. let was = a.unasked none in record { images = λ quiet image is. was.images quiet image (record { file_0 = is.file_0; file_1 = is.file_1 }); none = was.none; other = was.other; syncs = was.syncs };
        few_syncs = a.few_syncs;
        renewed = renewed_on b x (Gave line piece went ∷ x) refl (same_gave (history b x) line piece went) a.renewed;
      }
    where
      printed_gave : (l : ℕ) (z : Bool) → nat_eq line l ≡ z → (more : List ℕ) × (due l b ms x ≡ sent l x ++ more) → (more : List ℕ) × (due l b ms (Gave line piece went ∷ x) ≡ sent l (Gave line piece went ∷ x) ++ more)
      printed_gave l false other p = (p.0, sym (due_gave (store_failed x) (replies_on_lines b.plan.command) l) ∙ p.1 ∙ ap (λ (y : List ℕ). y ++ p.0) (sym (gave_sent l other)))
      printed_gave l true same p =
          let is : line ≡ l = eqb-true line l same in
          let h = gave_here l same went in (
            h.0,
            sym (due_gave (store_failed x) (replies_on_lines b.plan.command) l)
                ∙ subst (λ k. due k b ms x ≡ sent k x ++ (piece ++ rest)) is (due_here on this alive) ∙ h.1,
          )

-- A prefix of a piece went: the rest of it is owed still.
pub gave_on : (b : RunStart) (ms : List Mark) (line : ℕ) (piece rest : List ℕ) (n : ℕ) (x : List Call) → GivingAt b ms (piece ++ rest) x
    → replies_on_lines b.plan.command ≡ true → line ≡ line_now b.plan.command x → failed_on line x ≡ false → 0 < length piece
    → ((k : ℕ) → (length (owed_to line b ms (take k (answered b.plan x))) ≤ length (sent line x)) ⊎ (length (sent line x) + length piece ≤ length (owed_to line b ms (take k (answered b.plan x)))))
    → IsFull b x → GivingAt b ms (drop n piece ++ rest) (Gave line piece (Some n) ∷ x)
gave_on b ms line piece rest n x g on this sound some in_one full =
    let m = g.are_marks in
    record {
      each = (gave_answered b ms line piece rest (Some n) x g on this sound (alive b.plan.command) some in_one full, g.each);
      are_marks = record { marked = m.marked; fit = m.fit; keys = m.keys; few = m.few };
      few = λ l. few_gave l (nat_eq line l) refl;
      owes = λ l here. owes_gave l (nat_eq line l) refl (was_alive b.plan.command l here) ∙ ap (λ k. sent l (Gave line piece (Some n) ∷ x) ++ on_line k l (drop n piece ++ rest)) (sym (now b.plan.command));
      keeps = λ quiet image is. g.keeps quiet image (record { file_0 = is.file_0; file_1 = is.file_1 });
      unfailed = g.unfailed;
    }
  where
    alive : (command : Command) → IsAlive command line x
    alive Pipe = tt
    alive (Serve address connections) = sound
    alive Check = tt

    now : (command : Command) → line_now command (Gave line piece (Some n) ∷ x) ≡ line_now command x
    now Pipe = refl
    now (Serve address connections) = refl
    now Check = refl

    was_alive : (command : Command) (l : ℕ) → IsAlive command l (Gave line piece (Some n) ∷ x) → IsAlive command l x
    was_alive Pipe l h = tt
    was_alive (Serve address connections) l h = h
    was_alive Check l h = tt

    went : (l : ℕ) → nat_eq line l ≡ true → sent l (Gave line piece (Some n) ∷ x) ≡ sent l x ++ take n piece
    went l same = ap (λ z. cond z (sent l x ++ take n piece) (sent l x)) same

    owes_gave : (l : ℕ) (z : Bool) → nat_eq line l ≡ z → IsAlive b.plan.command l x
        → owed_to l b ms (events b.plan x) ≡ sent l (Gave line piece (Some n) ∷ x) ++ on_line (line_now b.plan.command x) l (drop n piece ++ rest)
    owes_gave l false other here =
        g.owes l here ∙ ap (λ z. sent l x ++ cond z (piece ++ rest) []) (ap (λ k. nat_eq k l) (sym this) ∙ other)
        ∙ ap (λ z. z ++ []) (sym (gave_sent b ms line piece rest (Some n) x g l other))
        ∙ ap (λ z. sent l (Gave line piece (Some n) ∷ x) ++ cond z (drop n piece ++ rest) []) (sym (ap (λ k. nat_eq k l) (sym this) ∙ other))
    owes_gave l true same here =
        g.owes l here ∙ ap (λ z. sent l x ++ cond z (piece ++ rest) []) (ap (λ k. nat_eq k l) (sym this) ∙ same)
        ∙ ap (λ z. sent l x ++ (z ++ rest)) (sym (take-append-drop n piece))
        ∙ ap (λ z. sent l x ++ z) (append_assoc (take n piece) (drop n piece) rest)
        ∙ sym (append_assoc (sent l x) (take n piece) (drop n piece ++ rest))
        ∙ ap (λ z. z ++ (drop n piece ++ rest)) (sym (went l same))
        ∙ ap (λ z. sent l (Gave line piece (Some n) ∷ x) ++ cond z (drop n piece ++ rest) []) (sym (ap (λ k. nat_eq k l) (sym this) ∙ same))

    few_gave : (l : ℕ) (z : Bool) → nat_eq line l ≡ z → length (sent l (Gave line piece (Some n) ∷ x)) ≤ length (owed_to l b ms (events b.plan x))
    few_gave l false other = omega (arith, g.few l, ap (λ (z : List ℕ). length z) (gave_sent b ms line piece rest (Some n) x g l other))
    few_gave l true same =
        let here : IsAlive b.plan.command l x = subst (λ k. IsAlive b.plan.command k x) (eqb-true line l same) (alive b.plan.command) in
        let all = ap (λ (z : List ℕ). length z) (owes_gave l true same here) in
        omega (arith, all, length-append (sent l (Gave line piece (Some n) ∷ x)) (on_line (line_now b.plan.command x) l (drop n piece ++ rest)))

-- Where all replies were given, the next batch begins.
pub next_batch : (b : RunStart) (ms : List Mark) (calls : List Call) → in_batch calls ≡ 0 → GivingAt b ms [] calls → OwingAt b ms [] calls
next_batch b ms calls none g =
    let all = sym (no_batch b.plan calls none) in
    record {
      each = g.each;
      are_marks = g.are_marks;
      given = λ line alive.
          subst (λ (es : List LineEvent). sent line calls ≡ owed_to line b ms es) all
          (sym (g.owes line alive ∙ ap (λ (z : List ℕ). sent line calls ++ z) (on_line-nil (line_now b.plan.command calls) line) ∙ append-nil (sent line calls)));
      few = λ line. subst (λ (es : List LineEvent). length (sent line calls) ≤ length (owed_to line b ms es)) all (g.few line);
      owes = g.owes;
      keeps = λ quiet image is. subst (λ (es : List LineEvent). KeepsAfter b ms es image) all (g.keeps quiet image is);
      unfailed = g.unfailed;
    }
