use Rattle.kms_policy.proofs.PolicyLaws.{quotas_by_service_admins}
use Rattle.kms_policy.proofs.laws.quotas_are_for_service_admins.Goals as goal

pub returns : goal.returns
returns c = quotas_by_service_admins c.args.caller.now
