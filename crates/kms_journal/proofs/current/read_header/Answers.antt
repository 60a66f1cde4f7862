use Rattle.std.proofs.Common.{◌≡◌, ◌<◌, ◌∙◌, sym, ap, subst, arith, List, ℕ, length, take}
use Rattle.std.proofs.lemmas.Result.{err_from_is_err_and}
use Rattle.std.proofs.lemmas.List.{take_all}
use Rattle.kms_host.specs.Disk.{reads}
use Rattle.kms_host.specs.History.{HasFirst}
use Rattle.kms_host.proofs.FaultLaws.{stops_then}
use Rattle.kms_host.proofs.Moments.{tells_then, tells_weaker}
use Rattle.kms_journal.proofs.ReadingLaws.{one_measure, one_read, reading_then, same_reads}
use Rattle.kms_journal.proofs.current.read_header.Goals as goal

-- a room that the file fills
filled : (room bytes : List ℕ) (n : ℕ) → HasFirst bytes room n → length room ≡ 50 → 50 < length bytes → room ≡ take 50 bytes
filled room bytes n first size long =
    let all : n ≡ 50 = omega (arith, first.count) in
    sym (take_all 50 room (omega arith)) ∙ ap (λ (k : ℕ). take k room) (sym all) ∙ first.same ∙ ap (λ (k : ℕ). take k bytes) all

pub returns-in_err-size-clause-told : goal.returns-in_err-size-clause-told
returns-in_err-size-clause-told g c =
    let r = err_from_is_err_and c.from_residual.result c.from_residual.ensures.1 in
    rw (r.1)
    (tells_weaker _ c.in_err-size.ensures.told (λ was now told. record { throughout = one_measure was now c.args.file _ told.0; found = tt }))

pub returns-in_err-read_at-clause-told : goal.returns-in_err-read_at-clause-told
returns-in_err-read_at-clause-told g c =
    let r = err_from_is_err_and c.from_residual-in_err-read_at.result c.from_residual-in_err-read_at.ensures.1 in
    rw (r.1)
    (tells_then _ c.in_ok-size.ensures.told c.in_err-read_at.ensures.told
    (λ was mid now one two. record {
      throughout = reading_then was mid now (one_measure was mid c.args.file _ one.0) (one_read mid now c.args.file _ _ _ two.0);
      found = tt;
    }))

pub returns-clause-told : goal.returns-clause-told
returns-clause-told g c =
    tells_then _ c.in_ok-size.ensures.told c.in_ok-read_at.ensures.told
    (λ was mid now one two.
    let before = one_measure was mid c.args.file _ one.0 in
    record {
      throughout = reading_then was mid now before (one_read mid now c.args.file _ _ _ two.0);
      found = c.header_in.ensures.told (reads c.args.file was) one.1
          (λ long. filled c.read_at.new.room (reads c.args.file was) c.in_ok-read_at.field-0 (subst (λ (l : List ℕ). HasFirst l c.read_at.new.room c.in_ok-read_at.field-0) (same_reads was mid before c.args.file) two.1) (omega arith) long);
    })

pub returns-in_err-read_at-clause-stops : goal.returns-in_err-read_at-clause-stops
returns-in_err-read_at-clause-stops g c = stops_then c.len.ensures.stops c.read_at.ensures.stops

pub returns-clause-stops : goal.returns-clause-stops
returns-clause-stops g c = stops_then c.len.ensures.stops c.read_at.ensures.stops
