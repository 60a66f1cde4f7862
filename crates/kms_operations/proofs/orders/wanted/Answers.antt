use Rattle.kms_secret.proofs.RangeLaws.{order_in_range}
use Rattle.kms_operations.proofs.orders.wanted.Goals as goal

pub returns-clause-range : goal.returns-clause-range
returns-clause-range c = order_in_range c.in_ok-body.body c.args.moment c.in_ok-new.new c.in_ok-new.ensures
