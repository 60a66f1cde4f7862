use Rattle.kms_operations.proofs.FoundLaws.{secret_if_any}
use Rattle.kms_operations.proofs.secrets.any_secret.Goals as goal

pub returns-clause-kept : goal.returns-clause-kept
returns-clause-kept c = secret_if_any _ _ _ c.secret.ensures.sound c.secret.ensures.found
