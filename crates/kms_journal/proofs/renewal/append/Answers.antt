use Rattle.std.proofs.lemmas.Result.{err_from_is_err_and}
use Rattle.kms_host.proofs.Moments.{tells_with}
use Rattle.kms_journal.proofs.GrowingLaws.{append_fails, appended}
use Rattle.kms_journal.proofs.renewal.append.Goals as goal

pub returns-in_err-write_at-clause-told : goal.returns-in_err-write_at-clause-told
returns-in_err-write_at-clause-told g c =
    let r = err_from_is_err_and c.from_residual.result c.from_residual.ensures.1 in
    rw (r.1)
    (tells_with _ c.requires.end c.in_err-write_at.ensures.told
    (λ was now here told. append_fails c.args.file c.args.end c.args.piece.now was now told.0 c.requires.some here told.1 r.0))

pub returns-clause-told : goal.returns-clause-told
returns-clause-told g c =
    tells_with _ c.requires.end c.in_ok-write_at.ensures.told
    (λ was now here told. appended c.args.file c.args.end c.args.piece.now was now told.0 c.requires.some here told.1 _ told.2)
