use Rattle.kms_operations.proofs.KeptOrderLaws.{containers_apart, kept_apart, secrets_apart}
use Rattle.kms_operations.proofs.laws.kept_orders_stand_apart.Goals as goal

pub returns-clause-apart : goal.returns-clause-apart
returns-clause-apart c = kept_apart

pub returns-clause-secrets : goal.returns-clause-secrets
returns-clause-secrets c = secrets_apart

pub returns-clause-containers : goal.returns-clause-containers
returns-clause-containers c = containers_apart
