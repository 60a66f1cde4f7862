use Rattle.kms_host.proofs.Moments.{known_with_told}
use Rattle.kms_journal.proofs.ReadingLaws.{attached_after}
use Rattle.kms_store.proofs.tests.settling.reads_through.Goals as goal

pub returns-in-Ok : goal.returns-in-Ok
returns-in-Ok g c = known_with_told _ c.requires c.in-Ok.ensures.told (λ was now k f. attached_after was now (f k.0 k.1).throughout k.1.attached)

pub returns : goal.returns
returns g c = known_with_told _ c.requires c.in-Err.ensures.told (λ was now k f. attached_after was now (f k.0 k.1).throughout k.1.attached)
