use Rattle.kms_json.specs.Link.{link_data}
use Rattle.kms_json.proofs.reply.link.Goals as goal

pub returns : goal.returns
returns c = c.shown.ensures (link_data c.args.endpoint.now c.args.link c.args.id) c.in_ok-out.out c.in_ok-out.ensures.tokens c.in_ok-write_link.ensures
