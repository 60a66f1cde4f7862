use Rattle.kms_operations.proofs.ConsumerLaws.{shown_with}
use Rattle.kms_operations.proofs.consumers.view_with.Goals as goal

pub returns : goal.returns
returns c = shown_with c.args.rows.now.kept.state c.args.row.now c.args.pair.now c.args.moment c.in_ok-view.view c.in_ok-new_row.field-0 c.push.new.self c.in_ok-view.ensures c.in_ok-new_row.ensures c.in_ok-push.ensures.ok
