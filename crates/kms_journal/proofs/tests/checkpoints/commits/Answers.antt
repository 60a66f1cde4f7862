use Rattle.kms_host.proofs.Moments.{known_with_told}
use Rattle.kms_journal.proofs.tests.checkpoints.commits.Goals as goal

pub bodies-requires : goal.bodies-requires
bodies-requires c = known_with_told _ c.requires.placed c.in-Ok.ensures.told (λ was now k w. (_, (w k.0 k.1).placed))
