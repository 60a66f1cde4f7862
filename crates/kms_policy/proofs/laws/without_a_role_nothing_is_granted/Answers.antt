use Rattle.kms_policy.proofs.PolicyLaws.{without_a_role}
use Rattle.kms_policy.proofs.laws.without_a_role_nothing_is_granted.Goals as goal

pub returns : goal.returns
returns c = λ row h. without_a_role c.args.caller.now c.args.action row c.requires h
