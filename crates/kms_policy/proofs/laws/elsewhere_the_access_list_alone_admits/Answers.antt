use Rattle.kms_policy.proofs.PolicyLaws.{elsewhere_by_list}
use Rattle.kms_policy.proofs.laws.elsewhere_the_access_list_alone_admits.Goals as goal

pub returns : goal.returns
returns c = λ row h. elsewhere_by_list c.args.caller.now c.args.action row h
