use Rattle.std.proofs.Common.{◌≡◌, ◌∙◌, ◌+◌, ◌-◌, ◌<◌, ℕ, List, subst, ap, sym, arith, true, false}
use Rattle.std.specs.Prelude.{Ok}
use Rattle.std.proofs.lemmas.Result.{err_from_is_err_and}
use Rattle.kms_host.specs.Disk.{reads}
use Rattle.kms_host.specs.History.{History}
use Rattle.kms_host.specs.Moment.{Throughout}
use Rattle.kms_host.specs.declared.call.Failed.{Failed}
use Rattle.kms_host.proofs.FaultLaws.{stops_then}
use Rattle.kms_host.proofs.Moments.{tells_then, known_with_told}
use Rattle.kms_journal.specs.Device.{IsUntouched}
use Rattle.kms_journal.specs.Walk.{IsInside, ReadsNext}
use Rattle.kms_journal.specs.declared.walk.Next.TheVariants.{Clear, Broken, Whole}
use Rattle.kms_journal.proofs.FaultLaws.{later_then, fails_then}
use Rattle.kms_journal.proofs.ReadingLaws.{reading_then, attached_after}
use Rattle.kms_journal.proofs.WalkLaws.{WalksSoFar, walks_on, walks_to, all_records, clear_at, broken_at}
use Rattle.kms_journal.proofs.gather.gather.Goals as goal

pub returns-in_err-look-clause-told : goal.returns-in_err-look-clause-told
returns-in_err-look-clause-told g c =
    let r = err_from_is_err_and c.from_residual.result c.from_residual.ensures.1 in
    rw (r.1)
    (tells_then _ c.records.invariant.told c.in_err-look.ensures.told
    (λ was mid now so_far f. record { throughout = reading_then was mid now so_far.throughout f.throughout; found = tt }))

pub returns-in-Clear-clause-told : goal.returns-in-Clear-clause-told
returns-in-Clear-clause-told g c =
    tells_then _ c.records.invariant.told c.in_ok-look.ensures.told
    (λ was mid now so_far f. record {
      throughout = reading_then was mid now so_far.throughout f.throughout;
      found = λ long a.
          all_records (reads c.args.file was) c.args.start c.records.place true c.records.bodies
          (walks_to c.args.file c.args.size c.args.start c.records.place c.args.buffer.now c.records.buffer c.look.new.buffer c.records.bodies c.in_ok-look.field-0 was mid now so_far f
          Clear true c.in-Clear.is (λ bytes is. clear_at bytes c.records.place is) long a);
    })

pub returns-in-Broken-clause-told : goal.returns-in-Broken-clause-told
returns-in-Broken-clause-told g c =
    tells_then _ c.records.invariant.told c.in_ok-look.ensures.told
    (λ was mid now so_far f. record {
      throughout = reading_then was mid now so_far.throughout f.throughout;
      found = λ long a.
          all_records (reads c.args.file was) c.args.start c.records.place false c.records.bodies
          (walks_to c.args.file c.args.size c.args.start c.records.place c.args.buffer.now c.records.buffer c.look.new.buffer c.records.bodies c.in_ok-look.field-0 was mid now so_far f
          Broken false c.in-Broken.is (λ bytes is. broken_at bytes c.records.place is) long a);
    })

pub read_part-requires-clause-attached : goal.read_part-requires-clause-attached
read_part-requires-clause-attached g c = known_with_told _ c.records.invariant.attached c.in_ok-look.ensures.told (λ was now a f. attached_after was now f.throughout a)

pub returns-in_err-body-in-Whole-clause-told : goal.returns-in_err-body-in-Whole-clause-told
returns-in_err-body-in-Whole-clause-told g c =
    let r = err_from_is_err_and c.from_residual-in_err-body-in-Whole.result c.from_residual-in_err-body-in-Whole.ensures.1 in
    let first = tells_then (λ was now. Throughout (IsUntouched was) was now) c.records.invariant.told c.in_ok-look.ensures.told
    (λ was mid now so_far f. reading_then was mid now so_far.throughout f.throughout) in
    rw (r.1)
    (tells_then _ first c.in_err-body-in-Whole.ensures.told (λ was mid now t f. record { throughout = reading_then was mid now t f.throughout; found = tt }))

pub returns-in_err-push-in-Whole-clause-told : goal.returns-in_err-push-in-Whole-clause-told
returns-in_err-push-in-Whole-clause-told g c =
    let r = err_from_is_err_and c.from_residual-in_err-push-in-Whole.result c.from_residual-in_err-push-in-Whole.ensures.1 in
    let first = tells_then (λ was now. Throughout (IsUntouched was) was now) c.records.invariant.told c.in_ok-look.ensures.told
    (λ was mid now so_far f. reading_then was mid now so_far.throughout f.throughout) in
    rw (r.1)
    (tells_then _ first c.in_ok-body-in-Whole.ensures.told (λ was mid now t f. record { throughout = reading_then was mid now t f.throughout; found = tt }))

pub records-preserved : goal.records-preserved
records-preserved g c =
    let file = c.args.file in
    let size = c.args.size in
    let start = c.args.start in
    let place = c.records.place in
    let first = c.args.buffer.now in
    let held = c.records.buffer in
    let new = c.look.new.buffer in
    let next = c.in_ok-look.field-0 in
    let n = c.from.result in
    let same : n ≡ c.from-in-Whole.result = c.from.ensures ∙ sym c.from-in-Whole.ensures in
    let whole : next ≡ Whole n = c.in-Whole.is ∙ ap Whole (sym c.from.ensures) in
    let within : IsInside (size - place) (Whole n) = subst (IsInside (size - place)) whole c.in_ok-look.ensures.within in
    let inside : place + (5 + n) < size = omega (arith, within, c.records.invariant.within) in
    let looked = tells_then
    (λ was now. (mid : History) × WalksSoFar file size start place first held c.records.bodies was mid × ReadsNext {E = Failed} file place size held new (Ok next) mid now)
    c.records.invariant.told c.in_ok-look.ensures.told (λ was mid now so_far f. (mid, so_far, f)) in
    record {
      told = tells_then _ looked c.in_ok-body-in-Whole.ensures.told
          (λ was now late one read.
          subst (λ (k : ℕ). WalksSoFar file size start (place + (5 + k)) first c.read_part.new.buffer c.push.new.self was late) same
          (subst (λ (l : List (ℕ × List ℕ)). WalksSoFar file size start (place + (5 + n)) first c.read_part.new.buffer l was late) (sym c.in_ok-push-in-Whole.ensures.ok)
          (walks_on file size start place first held new c.records.bodies next was one.0 now one.1 one.2 c.read_part.new.buffer n c.in_ok-body-in-Whole.body late whole inside read)));
      attached = known_with_told _ (known_with_told _ c.records.invariant.attached c.in_ok-look.ensures.told (λ was now a f. attached_after was now f.throughout a)) c.in_ok-body-in-Whole.ensures.told
          (λ was now a f. attached_after was now f.throughout a);
      from = omega (arith, c.records.invariant.from);
      within = omega (arith, inside, same);
      later = later_then _ _ _ (later_then _ _ _ c.records.invariant.later c.in_ok-look.ensures.cause.later) c.in_ok-body-in-Whole.ensures.cause.later;
      failed = fails_then false (fails_then false c.records.invariant.failed c.in_ok-look.ensures.failed) c.in_ok-body-in-Whole.ensures.failed;
      stops = stops_then (stops_then c.records.invariant.stops c.look.ensures.stops) c.read_part.ensures.stops;
    }
