use Rattle.kms_host.proofs.Moments.{known_with_told}
use Rattle.kms_journal.proofs.RestLaws.{looked_attached}
use Rattle.kms_journal.proofs.tests.lives.Goals as goal

pub returns : goal.returns
returns g c = known_with_told _ c.requires c.living.ensures.told (λ was now a l. looked_attached _ was now l a)
