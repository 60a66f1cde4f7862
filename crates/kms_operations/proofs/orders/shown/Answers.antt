use Rattle.std.proofs.Common.{subst}
use Rattle.kms_secret.proofs.RuleLaws.{given_is}
use Rattle.kms_world.specs.Times.{IsTimelyOrder}
use Rattle.kms_operations.proofs.OrderLaws.{timely}
use Rattle.kms_operations.proofs.orders.shown.Goals as goal

pub returns-clause-possible : goal.returns-clause-possible
returns-clause-possible c = record {
  times = subst IsTimelyOrder (given_is _ c.in_ok-copied.field-0 c.in_ok-copied.ensures) (timely _ _ c.in_ok-order.ensures.kept.is);
  change = tt;
}
