use Rattle.std.proofs.lemmas.Result.{err_from_is_err_and}
use Rattle.kms_host.proofs.FaultLaws.{stops_then}
use Rattle.kms_host.proofs.Moments.{tells_then, tells_weaker, known_with_told}
use Rattle.kms_journal.proofs.RepairLaws.{cut_place, cut_fails, short, clear_fails, clear_done}
use Rattle.kms_journal.proofs.recovery.repair.Goals as goal

pub returns-in_err-cut_through-clause-told : goal.returns-in_err-cut_through-clause-told
returns-in_err-cut_through-clause-told g c =
    let p = err_from_is_err_and c.from_residual.result c.from_residual.ensures.1 in
    rw (p.1)
    (tells_weaker _ c.in_err-cut_through.ensures.told
    (λ was now w s r. cut_fails c.args.file c.args.end was s c.requires.file r _ p.0 now w))

pub write_through-requires-clause-place : goal.write_through-requires-clause-place
write_through-requires-clause-place g c =
    known_with_told _ c.requires.place c.in_ok-cut_through.ensures.told (λ was now place w. cut_place c.args.file c.args.end _ was now place w)

pub returns-in_err-write_through-clause-told : goal.returns-in_err-write_through-clause-told
returns-in_err-write_through-clause-told g c =
    let p = err_from_is_err_and c.from_residual-in_err-write_through.result c.from_residual-in_err-write_through.ensures.1 in
    rw (p.1)
    (tells_then _ c.in_ok-cut_through.ensures.told c.in_err-write_through.ensures.told
    (λ was mid now one two s r.
    clear_fails c.args.file c.args.end was s c.requires.file r _ p.0 mid now (short c.args.file c.args.end was s c.requires.file r _ mid one) two))

pub returns-clause-told : goal.returns-clause-told
returns-clause-told g c =
    tells_then _ c.in_ok-cut_through.ensures.told c.in_ok-write_through.ensures.told
    (λ was mid now one two s r.
    clear_done c.args.file c.args.end was s c.requires.file r _ mid now (short c.args.file c.args.end was s c.requires.file r _ mid one) two)

pub returns-in_err-write_through-clause-stops : goal.returns-in_err-write_through-clause-stops
returns-in_err-write_through-clause-stops g c = stops_then c.cut_through.ensures.stops c.write_through.ensures.stops

pub returns-clause-stops : goal.returns-clause-stops
returns-clause-stops g c = stops_then c.cut_through.ensures.stops c.write_through.ensures.stops
