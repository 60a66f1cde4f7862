use Rattle.kms_operations.proofs.QuotaLaws.{checked_is}
use Rattle.kms_operations.proofs.quotas.limits_by.Goals as goal

pub returns : goal.returns
returns c = checked_is _ _ c.check_quotas.ensures
