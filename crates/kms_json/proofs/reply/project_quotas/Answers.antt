use Rattle.kms_json.specs.Quota.{project_quotas_data}
use Rattle.kms_json.proofs.reply.project_quotas.Goals as goal

pub returns : goal.returns
returns c = c.shown.ensures (project_quotas_data c.args.row.now) c.in_ok-out.out c.in_ok-out.ensures.tokens c.in_ok-write_project_quotas.ensures
