use Rattle.std.proofs.Common.{◌≡◌, ◌∙◌, ◌+◌, ◌≤◌, ◌<◌, ℕ, List, ◌++◌, length, take, drop, ap, sym, subst, arith, false}
use Rattle.std.proofs.lemmas.Result.{err_from_is_err_and}
use Rattle.std.proofs.lemmas.List.{length-take}
use Rattle.kms_host.proofs.Moments.{tells_then, tells_weaker, tells_nothing, known_with_told}
use Rattle.kms_host.proofs.FaultLaws.{stops_same, stops_then}
use Rattle.kms_host.specs.Disk.{reads}
use Rattle.kms_journal.specs.Ahead.{IsAhead}
use Rattle.kms_journal.proofs.FaultLaws.{later_then, never_falls, fails_nothing, fails_then}
use Rattle.kms_journal.proofs.GatherLaws.{ReadsSoFar, reads_nothing, reads_on, some_read}
use Rattle.kms_journal.proofs.ReadingLaws.{reading_then, attached_after}
use Rattle.kms_journal.proofs.gather.read_part.Goals as goal

pub returns-in_err-fill-clause-told : goal.returns-in_err-fill-clause-told
returns-in_err-fill-clause-told g c =
    let r = err_from_is_err_and c.from_residual-in_err-fill.result c.from_residual-in_err-fill.ensures.1 in
    rw (r.1)
    (tells_then _ c.loop-done.invariant.told c.in_err-fill.ensures.told
    (λ was mid now so_far f. record { throughout = reading_then was mid now so_far.throughout f.throughout; part = tt; ahead = tt }))

pub returns-in_err-push_all-clause-told : goal.returns-in_err-push_all-clause-told
returns-in_err-push_all-clause-told g c =
    let r = err_from_is_err_and c.from_residual-in_err-push_all.result c.from_residual-in_err-push_all.ensures.1 in
    rw (r.1)
    (tells_then _ c.loop-done.invariant.told c.in_ok-fill.ensures.told
    (λ was mid now so_far f. record { throughout = reading_then was mid now so_far.throughout f.throughout; part = tt; ahead = tt }))

pub returns-then-count-eq0-clause-told : goal.returns-then-count-eq0-clause-told
returns-then-count-eq0-clause-told g c =
    let file = c.args.file in
    let at = c.args.at in
    let size = c.args.size in
    let done = c.loop-done.done in
    let old = c.args.buffer.now in
    let new = c.fill.new.self in
    let most = c.min.result in
    let none : length (take most new) ≡ 0 = ap length (sym c.front-piece.ensures) ∙ c.if-count-eq0.true in
    tells_then _ c.loop-done.invariant.told c.in_ok-fill.ensures.told
    (λ was mid now so_far f.
    let some : IsAhead file at old was → at + size ≤ length (reads file was) → 0 < length (take most new) =
    some_read file at size done most old c.loop-done.buffer new c.loop-done.part c.in_ok-fill.field-0 was mid now so_far f c.loop-done-test.true (omega (arith, c.min.ensures, c.loop-done-test.true)) in
    record {
      throughout = reading_then was mid now so_far.throughout f.throughout;
      part = λ a long. absurd (omega (arith, some a long, none));
      ahead = λ a long. absurd (omega (arith, some a long, none));
    })

pub loop-done-preserved : goal.loop-done-preserved
loop-done-preserved g c =
    let file = c.args.file in
    let at = c.args.at in
    let size = c.args.size in
    let done = c.loop-done.done in
    let old = c.args.buffer.now in
    let new = c.fill.new.self in
    let most = c.min.result in
    let n = length (take most new) in
    let piece : c.front-piece.result.now ≡ take most new = c.front-piece.ensures in
    let pushed : c.push_all.new.self ≡ c.loop-done.part ++ take most new = c.in_ok-push_all.ensures.ok ∙ ap (λ (l : List ℕ). c.loop-done.part ++ l) piece in
    let skipped : c.skip.new.self ≡ drop n new = c.skip.ensures ∙ ap (λ (l : List ℕ). drop (length l) new) piece in
    record {
      told = tells_then _ c.loop-done.invariant.told c.in_ok-fill.ensures.told
          (λ was mid now so_far f.
          subst (λ (l : List ℕ). ReadsSoFar file at size (done + length l) old c.skip.new.self c.push_all.new.self was now) (sym piece)
          (subst (λ (l : List ℕ). ReadsSoFar file at size (done + n) old l c.push_all.new.self was now) (sym skipped)
          (subst (λ (l : List ℕ). ReadsSoFar file at size (done + n) old (drop n new) l was now) (sym pushed)
          (reads_on file at size done most old c.loop-done.buffer new c.loop-done.part c.in_ok-fill.field-0 was mid now so_far f c.loop-done-test.true (omega (arith, c.min.ensures, c.loop-done-test.true))))));
      attached = known_with_told _ c.loop-done.invariant.attached c.in_ok-fill.ensures.told (λ was now a f. attached_after was now f.throughout a);
      within = omega (arith, ap length piece, length-take most new, c.min.ensures, c.loop-done-test.true);
      later = later_then _ _ _ c.loop-done.invariant.later c.in_ok-fill.ensures.cause.later;
      failed = fails_then false c.loop-done.invariant.failed c.in_ok-fill.ensures.failed;
      stops = stops_then c.loop-done.invariant.stops c.fill.ensures.stops;
    }

pub returns-clause-told : goal.returns-clause-told
returns-clause-told g c =
    let done : c.loop-done.done ≡ c.args.size = omega (arith, c.loop-done.invariant.within, c.loop-done-test.false) in
    tells_weaker _ c.loop-done.invariant.told
    (λ was now so_far. record {
      throughout = so_far.throughout;
      part = λ a long. so_far.bytes a long ∙ ap (λ (n : ℕ). take n (drop c.args.at (reads c.args.file was))) done;
      ahead = λ a long. subst (λ (n : ℕ). IsAhead c.args.file (c.args.at + n) c.loop-done.buffer was) done (so_far.ahead a long);
    })

pub loop-done-init : goal.loop-done-init
loop-done-init g c = record {
  told = tells_nothing _ c.requires.attached (λ was a. reads_nothing c.args.file c.args.at c.args.size c.args.buffer.now c.in_ok-part.part was c.in_ok-part.ensures);
  attached = c.requires.attached;
  within = omega arith;
  later = never_falls _;
  failed = fails_nothing c.requires.attached;
  stops = stops_same _ _;
}
