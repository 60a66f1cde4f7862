use Rattle.kms_operations.proofs.ContainerLaws.{container_deletion_fits}
use Rattle.kms_operations.proofs.containers.deleted.Goals as goal

pub returns-clause-possible : goal.returns-clause-possible
returns-clause-possible c = record { times = tt; change = container_deletion_fits _ _ _ c.in_ok-container.ensures.kept c.count_of.ensures.count }
