use Rattle.kms_operations.proofs.OrderLaws.{order_deletion_fits}
use Rattle.kms_operations.proofs.orders.deleted.Goals as goal

pub returns-clause-possible : goal.returns-clause-possible
returns-clause-possible c = record { times = tt; change = order_deletion_fits _ _ _ c.in_ok-order.ensures.kept c.count_of.ensures.count }
