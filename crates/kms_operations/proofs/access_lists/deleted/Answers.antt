use Rattle.kms_operations.proofs.FitLaws.{drop_if_any}
use Rattle.kms_operations.proofs.access_lists.deleted.Goals as goal

pub returns-clause-possible : goal.returns-clause-possible
returns-clause-possible c = record { times = tt; change = drop_if_any _ _ _ _ c.in_ok-target.ensures.kept c.acl.ensures.found c.dropped.ensures }
