use Rattle.kms_journal.proofs.LastingLaws.{checkpoint_found}
use Rattle.kms_journal.proofs.laws.what_a_checkpoint_kept_is_found.Goals as goal

pub returns : goal.returns
returns c = checkpoint_found
