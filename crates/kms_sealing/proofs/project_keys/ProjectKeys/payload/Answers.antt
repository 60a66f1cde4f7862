use Rattle.kms_opened.proofs.OnceLaws.{payload_once}
use Rattle.kms_sealing.proofs.project_keys.ProjectKeys.payload.Goals as goal

pub returns-in-Ok-clause-only : goal.returns-in-Ok-clause-only
returns-in-Ok-clause-only c = λ other o. payload_once c.args.self.now.masters c.fit.ensures c.args.tables.now.kept.keys c.args.secret.now.project c.args.secret.now.payload other c.in-Ok.plain o c.in-Ok.ensures.ok
