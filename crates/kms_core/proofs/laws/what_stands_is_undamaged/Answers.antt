use Rattle.kms_core.proofs.StandsLaws.{no_damage}
use Rattle.kms_core.proofs.laws.what_stands_is_undamaged.Goals as goal

pub returns : goal.returns
returns c = no_damage
