use Rattle.kms_json.specs.Container.{container_data}
use Rattle.kms_json.proofs.reply.container.Goals as goal

pub returns : goal.returns
returns c = c.shown.ensures (container_data c.args.endpoint.now c.args.one.now) c.in_ok-out.out c.in_ok-out.ensures.tokens c.in_ok-write_container.ensures
