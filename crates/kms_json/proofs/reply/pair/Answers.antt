use Rattle.kms_json.specs.Metadata.{pair_data}
use Rattle.kms_json.proofs.reply.pair.Goals as goal

pub returns : goal.returns
returns c = c.shown.ensures (pair_data c.args.key.now c.args.value.now) c.in_ok-out.out c.in_ok-out.ensures.tokens c.in_ok-write_pair.ensures
