use Rattle.kms_operations.proofs.ConsumerLaws.{shown_without}
use Rattle.kms_operations.proofs.consumers.view_without.Goals as goal

pub returns : goal.returns
returns c = shown_without c.args.rows.now.kept.state c.args.row.now c.args.pair.now c.in_ok-copy.copy c.consumers.result.now c.in_ok-consumers.consumers c.in_ok-copy.ensures c.consumers.ensures c.in_ok-consumers.ensures
