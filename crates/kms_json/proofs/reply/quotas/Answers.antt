use Rattle.kms_json.specs.Quota.{quotas_data}
use Rattle.kms_json.proofs.reply.quotas.Goals as goal

pub returns : goal.returns
returns c = c.shown.ensures (quotas_data c.args.row.now) c.in_ok-out.out c.in_ok-out.ensures.tokens c.in_ok-write_quotas.ensures
