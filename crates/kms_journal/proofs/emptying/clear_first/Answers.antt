use Rattle.std.proofs.Common.{◌∙◌, arith}
use Rattle.std.proofs.lemmas.Result.{err_from_is_err_and}
use Rattle.kms_host.specs.Disk.{reads}
use Rattle.kms_host.proofs.FaultLaws.{stops_then}
use Rattle.kms_host.proofs.Moments.{tells_then, tells_weaker, known_with_told}
use Rattle.kms_journal.proofs.EmptyLaws.{first_byte, first_set, clear_already, reading_fails, write_fails, cleared}
use Rattle.kms_journal.proofs.ReadingLaws.{one_read, attached_after}
use Rattle.kms_journal.proofs.emptying.clear_first.Goals as goal

pub returns-in_err-count-clause-told : goal.returns-in_err-count-clause-told
returns-in_err-count-clause-told g c =
    let r = err_from_is_err_and c.from_residual.result c.from_residual.ensures.1 in
    rw (r.1) (tells_weaker _ c.in_err-count.ensures.told (λ was now told. reading_fails c.args.file was r.0 now (one_read was now c.args.file _ _ _ told.0)))

pub returns-then-is_clear-clause-told : goal.returns-then-is_clear-clause-told
returns-then-is_clear-clause-told g c =
    tells_weaker _ c.in_ok-count.ensures.told
    (λ was now told.
    let bytes = reads c.args.file was in
    let f = first_byte bytes c.read_at.new.room c.in_ok-count.count told.1 c.read_at.auto.room in
    clear_already c.args.file was _ now (one_read was now c.args.file _ _ _ told.0)
    (omega (arith, f.0, c.if-is_clear.ensures.0))
    (λ e. c.if-is_clear.ensures.1 (f.1 c.if-is_clear.ensures.0 ∙ e)))

pub write_at-requires-clause-attached : goal.write_at-requires-clause-attached
write_at-requires-clause-attached g c =
    known_with_told _ c.requires.attached c.in_ok-count.ensures.told (λ was now a told. attached_after was now (one_read was now c.args.file _ _ _ told.0) a)

pub returns-in_err-write_at-clause-told : goal.returns-in_err-write_at-clause-told
returns-in_err-write_at-clause-told g c =
    let r = err_from_is_err_and c.from_residual-in_err-write_at.result c.from_residual-in_err-write_at.ensures.1 in
    rw (r.1)
    (tells_then _ c.in_ok-count.ensures.told c.in_err-write_at.ensures.told
    (λ was mid now told one.
    write_fails c.args.file was mid now one.0 (one_read was mid c.args.file _ _ _ told.0)
    (first_set (reads c.args.file was) c.read_at.new.room c.in_ok-count.count told.1 c.read_at.auto.room c.if-is_clear.ensures)
    one.1 r.0))

pub returns-clause-told : goal.returns-clause-told
returns-clause-told g c =
    tells_then _ c.in_ok-count.ensures.told c.in_ok-write_at.ensures.told
    (λ was mid now told one.
    cleared c.args.file was mid now one.0 (one_read was mid c.args.file _ _ _ told.0)
    (first_set (reads c.args.file was) c.read_at.new.room c.in_ok-count.count told.1 c.read_at.auto.room c.if-is_clear.ensures)
    one.1 _ one.2)

pub returns-in_err-write_at-clause-stops : goal.returns-in_err-write_at-clause-stops
returns-in_err-write_at-clause-stops g c = stops_then c.read_at.ensures.stops c.write_at.ensures.stops

pub returns-clause-stops : goal.returns-clause-stops
returns-clause-stops g c = stops_then c.read_at.ensures.stops c.write_at.ensures.stops
