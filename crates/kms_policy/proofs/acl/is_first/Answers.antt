use Rattle.kms_policy.proofs.SeenLaws.{one_text}
use Rattle.kms_policy.proofs.acl.is_first.Goals as goal

pub returns-clause-seen : goal.returns-clause-seen
returns-clause-seen c = one_text c.args.seen.now c.insert.new.self c.args.text c.in_ok-insert.ensures.updates
