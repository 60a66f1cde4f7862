use Rattle.kms_store.proofs.StandsLaws.{undamaged}
use Rattle.kms_store.proofs.laws.what_stands_is_undamaged.Goals as goal

pub returns : goal.returns
returns c = undamaged
