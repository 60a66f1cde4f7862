use Rattle.kms_kept.proofs.SettledLaws.{settled_stays, goes_where_deleted}
use Rattle.kms_kept.proofs.laws.settled_orders_stay.Goals as goal

pub returns-clause-stay : goal.returns-clause-stay
returns-clause-stay c = settled_stays

pub returns-clause-go : goal.returns-clause-go
returns-clause-go c = goes_where_deleted
