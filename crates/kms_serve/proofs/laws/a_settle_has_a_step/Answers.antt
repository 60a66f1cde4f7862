use Rattle.kms_serve.proofs.FewLaws.{few_settles_then, few_syncs_then}
use Rattle.kms_serve.proofs.laws.a_settle_has_a_step.Goals as goal

pub returns-clause-settles : goal.returns-clause-settles
returns-clause-settles c = few_settles_then

pub returns-clause-syncs : goal.returns-clause-syncs
returns-clause-syncs c = few_syncs_then
