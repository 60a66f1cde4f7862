use Rattle.kms_journal.proofs.LastingLaws.{kept_by_the_next}
use Rattle.kms_journal.proofs.laws.what_was_acknowledged_is_kept.Goals as goal

pub returns : goal.returns
returns c = kept_by_the_next
