use Rattle.std.proofs.Common.{◌∙◌}
use Rattle.std.proofs.lemmas.Result.{err_from_is_err_and}
use Rattle.kms_host.proofs.Moments.{tells_weaker}
use Rattle.kms_host.specs.Disk.{files}
use Rattle.kms_journal.proofs.CurrentLaws.{found_stands}
use Rattle.kms_journal.proofs.current.living.Goals as goal

pub returns-in_err-find_current-clause-told : goal.returns-in_err-find_current-clause-told
returns-in_err-find_current-clause-told g c =
    let r = err_from_is_err_and c.from_residual.result c.from_residual.ensures.1 in
    rw (r.1)
    (tells_weaker _ c.in_err-find_current.ensures.told (λ was now told. record { throughout = told.throughout; answer = tt }))

pub returns-clause-told : goal.returns-clause-told
returns-clause-told g c =
    tells_weaker _ c.in_ok-find_current.ensures.told (λ was now told. record { throughout = told.throughout; answer = c.is_some.ensures ∙ found_stands (files was) c.in_ok-find_current.field-0 told.found })
