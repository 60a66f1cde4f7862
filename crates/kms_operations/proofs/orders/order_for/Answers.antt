use Rattle.kms_operations.specs.Found.{IsKeptOrder}
use Rattle.kms_operations.proofs.FoundLaws.{for_found}
use Rattle.kms_operations.proofs.orders.order_for.Goals as goal

pub returns-clause-kept : goal.returns-clause-kept
returns-clause-kept c = for_found (IsKeptOrder c.args.rows.now.kept) c.args.found c.in-Some.order c.in-Some.is c.requires
