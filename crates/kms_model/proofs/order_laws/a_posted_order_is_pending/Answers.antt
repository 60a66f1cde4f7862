use Rattle.std.proofs.Common.{refl}
use Rattle.kms_model.proofs.PostedOrders.{is_posted_order}
use Rattle.kms_model.proofs.order_laws.a_posted_order_is_pending.Goals as goal

pub returns-clause-last : goal.returns-clause-last
returns-clause-last c = λ s caller body t done apart is. let p = is_posted_order s caller body t done is in (p.new, p.checked, p.state apart)

pub returns-clause-pending : goal.returns-clause-pending
returns-clause-pending c = λ s caller new t. refl

pub returns-clause-left : goal.returns-clause-left
returns-clause-left c = λ s caller body t done is. (is_posted_order s caller body t done is).left
