use Rattle.kms_model.proofs.PostedOrders.{no_secret, other_secret, pending_again, two_secrets}
use Rattle.kms_model.proofs.order_laws.wrong_traces_of_orders_are_refused.Goals as goal

pub returns-clause-other_secret : goal.returns-clause-other_secret
returns-clause-other_secret c = other_secret

pub returns-clause-pending_again : goal.returns-clause-pending_again
returns-clause-pending_again c = pending_again

pub returns-clause-shared_secret : goal.returns-clause-shared_secret
returns-clause-shared_secret c = λ s later o p id is also first second differ law. differ (law.own o p id is also first second)

pub returns-clause-no_secret : goal.returns-clause-no_secret
returns-clause-no_secret c = no_secret

pub returns-clause-two_secrets : goal.returns-clause-two_secrets
returns-clause-two_secrets c = two_secrets
