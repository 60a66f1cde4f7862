use Rattle.kms_journal.proofs.LastingLaws.{opening_stopped}
use Rattle.kms_journal.proofs.laws.opening_may_be_stopped.Goals as goal

pub returns : goal.returns
returns c = opening_stopped
