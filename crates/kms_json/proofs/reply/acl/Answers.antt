use Rattle.kms_json.specs.Acl.{acl_data}
use Rattle.kms_json.proofs.reply.acl.Goals as goal

pub returns : goal.returns
returns c = c.shown.ensures (acl_data c.args.row.now) c.in_ok-out.out c.in_ok-out.ensures.tokens c.in_ok-write_acl.ensures
