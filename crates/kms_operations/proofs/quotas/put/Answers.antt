use Rattle.kms_operations.proofs.QuotaLaws.{limits_checked, set_fits}
use Rattle.kms_operations.proofs.quotas.put.Goals as goal

pub put_of-requires : goal.put_of-requires
put_of-requires c = limits_checked c.in_ok-name.name c.in_ok-body.body c.in_ok-limits.limits c.in_ok-limits.ensures

pub returns-clause-possible : goal.returns-clause-possible
returns-clause-possible c = record { times = tt; change = set_fits _ _ c.put_of.ensures.range c.put_of.ensures.some }
