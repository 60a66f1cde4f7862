use Rattle.kms_ring.proofs.UniqueLaws.{behind_another}
use Rattle.kms_ring.proofs.laws.another_first_key_changes_nothing.Goals as goal

pub returns : goal.returns
returns c = behind_another
