use Rattle.kms_core.proofs.StandsLaws.{one_state}
use Rattle.kms_core.proofs.laws.files_stand_for_one_state.Goals as goal

pub returns : goal.returns
returns c = one_state
