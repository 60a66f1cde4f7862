use Rattle.kms_policy.proofs.PolicyLaws.{audit_without_payload}
use Rattle.kms_policy.proofs.laws.audit_alone_gets_no_payload.Goals as goal

pub returns : goal.returns
returns c = λ row h. audit_without_payload c.args.caller.now row c.requires h
