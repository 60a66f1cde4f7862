use Rattle.kms_operations.proofs.QuotaLaws.{quota_drop_fits, there_is}
use Rattle.kms_operations.proofs.quotas.deleted.Goals as goal

pub returns-clause-possible : goal.returns-clause-possible
returns-clause-possible c = record { times = tt; change = quota_drop_fits _ _ _ c.in_ok-set.field-0 c.drop_of.ensures.range c.drop_of.ensures.is (there_is _ _ c.in_ok-set.ensures) }
