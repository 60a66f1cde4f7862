use Rattle.std.proofs.Common.{refl}
use Rattle.kms_model.proofs.SecretLaws.{denied, is_granted}
use Rattle.kms_model.proofs.laws.absence_comes_before_denial.Goals as goal

pub returns-clause-absent : goal.returns-clause-absent
returns-clause-absent c = λ s caller action. refl

pub returns-clause-denied : goal.returns-clause-denied
returns-clause-denied c = denied

pub returns-clause-granted : goal.returns-clause-granted
returns-clause-granted c = is_granted
