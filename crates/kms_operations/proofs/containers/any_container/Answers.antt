use Rattle.kms_operations.proofs.FoundLaws.{container_if_any}
use Rattle.kms_operations.proofs.containers.any_container.Goals as goal

pub returns-clause-kept : goal.returns-clause-kept
returns-clause-kept c = container_if_any _ _ _ c.container.ensures.sound c.container.ensures.found
