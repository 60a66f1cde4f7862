use Rattle.kms_store.proofs.StandsLaws.{stand_for_one}
use Rattle.kms_store.proofs.laws.files_stand_for_one_thing.Goals as goal

pub returns : goal.returns
returns c = stand_for_one
