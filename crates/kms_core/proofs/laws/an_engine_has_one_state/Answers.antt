use Rattle.kms_core.proofs.StandsLaws.{one_of, state_stays}
use Rattle.kms_core.proofs.laws.an_engine_has_one_state.Goals as goal

pub returns-clause-one : goal.returns-clause-one
returns-clause-one c = one_of

pub returns-clause-stays : goal.returns-clause-stays
returns-clause-stays c = state_stays
