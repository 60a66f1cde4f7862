use Rattle.kms_journal.proofs.LastingLaws.{acknowledged_found}
use Rattle.kms_journal.proofs.laws.what_was_acknowledged_is_found.Goals as goal

pub returns : goal.returns
returns c = acknowledged_found
