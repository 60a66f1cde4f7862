use Rattle.kms_journal.proofs.LastingLaws.{checkpoint_stopped}
use Rattle.kms_journal.proofs.laws.checkpoint_may_be_stopped.Goals as goal

pub returns : goal.returns
returns c = checkpoint_stopped
