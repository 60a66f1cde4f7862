use Rattle.kms_policy.proofs.PolicyLaws.{few_get_a_payload}
use Rattle.kms_policy.proofs.laws.without_project_access_few_get_a_payload.Goals as goal

pub returns : goal.returns
returns c = λ row h. few_get_a_payload c.args.caller.now row h
