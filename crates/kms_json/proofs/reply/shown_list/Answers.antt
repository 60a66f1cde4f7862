use Rattle.kms_json.specs.List.{list_data}
use Rattle.kms_json.proofs.reply.shown_list.Goals as goal

pub returns : goal.returns
returns c = c.shown.ensures (list_data c.args.endpoint.now c.args.path.now c.args.query.now c.args.rows.now c.args.total) c.in_ok-out.out c.in_ok-out.ensures.tokens c.in_ok-write_list.ensures
