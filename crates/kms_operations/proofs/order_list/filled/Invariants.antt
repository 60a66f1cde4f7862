use Rattle.std.proofs.Common.{take, ◌≤◌}
use Rattle.kms_model.specs.Orders.{shows_order}
use Rattle.kms_operations.specs.Filling.{IsFilled}
use Rattle.kms_operations.proofs.order_list.filled.Given as goal

abbrev pub invariant-loop-row : goal.invariant-loop-row
invariant-loop-row l = IsFilled (shows_order l.caller) l.query (take l.row-index l.orders) l.page l.total × (l.total ≤ l.row-index)
