use Rattle.kms_operations.proofs.QuotaLaws.{limits_if_any}
use Rattle.kms_operations.proofs.quotas.quota.Goals as goal

pub returns-clause-limits : goal.returns-clause-limits
returns-clause-limits c = limits_if_any _ _ _ c.quota.ensures.sound c.quota.ensures.found
