use Rattle.kms_core.proofs.StandsLaws.{fresh_stands}
use Rattle.kms_core.proofs.laws.a_fresh_store_is_empty.Goals as goal

pub returns : goal.returns
returns c = fresh_stands
