use Rattle.kms_operations.proofs.OrderLaws.{order_if_any}
use Rattle.kms_operations.proofs.orders.any_order.Goals as goal

pub returns-clause-kept : goal.returns-clause-kept
returns-clause-kept c = order_if_any _ _ _ c.order.ensures.sound c.order.ensures.found
