use Rattle.kms_json.specs.Secret.{secret_data}
use Rattle.kms_json.proofs.reply.secret.Goals as goal

pub returns : goal.returns
returns c = c.shown.ensures (secret_data c.args.endpoint.now c.args.row.now) c.in_ok-out.out c.in_ok-out.ensures.tokens c.in_ok-write_secret.ensures
