use Rattle.std.proofs.Common.{true, false}
use Rattle.std.proofs.lemmas.Result.{err_from_is_err_and}
use Rattle.kms_host.proofs.FaultLaws.{stops_then}
use Rattle.kms_host.proofs.Moments.{tells_then, tells_with}
use Rattle.kms_journal.proofs.Writing.{written, IsDone, done, synced, on_disk, calls_are}
use Rattle.kms_journal.proofs.through.write_through.Goals as goal

pub returns-in_err-write_at-clause-told : goal.returns-in_err-write_at-clause-told
returns-in_err-write_at-clause-told g c =
    let p = err_from_is_err_and c.from_residual.result c.from_residual.ensures.1 in
    rw (p.1)
    (tells_with _ c.requires.place c.write_at.ensures.told
    (λ was now can told. record { throughout = (written c.args.file c.args.at c.args.piece.now was now told.0 can told.1).during; done = tt; calls = tt }))

pub returns-in_err-sync-clause-told : goal.returns-in_err-sync-clause-told
returns-in_err-sync-clause-told g c =
    let p = err_from_is_err_and c.from_residual-in_err-sync.result c.from_residual-in_err-sync.ensures.1 in
    let first = tells_with (IsDone c.args.file c.args.at c.args.piece.now) c.requires.place c.in_ok-write_at.ensures.told
    (λ was now can told. done c.args.file c.args.at c.args.piece.now was now told.0 can told.1 told.2) in
    rw (p.1)
    (tells_then _ first c.in_err-sync.ensures.told
    (λ was mid now d is. record { throughout = synced c.args.file c.args.at c.args.piece.now was mid now false d is; done = tt; calls = tt }))

pub returns-clause-told : goal.returns-clause-told
returns-clause-told g c =
    let first = tells_with (IsDone c.args.file c.args.at c.args.piece.now) c.requires.place c.in_ok-write_at.ensures.told
    (λ was now can told. done c.args.file c.args.at c.args.piece.now was now told.0 can told.1 told.2) in
    tells_then _ first c.in_ok-sync.ensures.told
    (λ was mid now d is. record { throughout = synced c.args.file c.args.at c.args.piece.now was mid now true d is; done = on_disk c.args.file c.args.at c.args.piece.now was mid now d is; calls = calls_are c.args.file c.args.at c.args.piece.now was mid now d is })

pub returns-in_err-sync-clause-stops : goal.returns-in_err-sync-clause-stops
returns-in_err-sync-clause-stops g c = stops_then c.write_at.ensures.stops c.sync.ensures.stops

pub returns-clause-stops : goal.returns-clause-stops
returns-clause-stops g c = stops_then c.write_at.ensures.stops c.sync.ensures.stops
