use Rattle.kms_host.proofs.Moments.{known_with_told}
use Rattle.kms_journal.proofs.RestLaws.{created_attached}
use Rattle.kms_store.proofs.tests.settling.creates.Goals as goal

pub returns : goal.returns
returns g c = known_with_told _ c.requires c.create.ensures.told (λ was now a k. created_attached _ _ was now k a)
