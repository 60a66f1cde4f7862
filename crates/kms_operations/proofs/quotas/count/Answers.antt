use Rattle.std.proofs.Common.{◌∙◌}
use Rattle.kms_operations.proofs.QuotaLaws.{counted}
use Rattle.kms_operations.proofs.quotas.count.Goals as goal

pub returns : goal.returns
returns c = c.count.ensures ∙ counted c.args.kind c.args.project.now c.args.rows.now.kept.state
