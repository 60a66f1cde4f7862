use Rattle.kms_kept.proofs.KeyNumberLaws.{ascending_apart}
use Rattle.kms_kept.proofs.laws.keys_stand_apart.Goals as goal

pub returns : goal.returns
returns c = ascending_apart
