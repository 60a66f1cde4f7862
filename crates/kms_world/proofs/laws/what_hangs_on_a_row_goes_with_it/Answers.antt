use Rattle.std.proofs.lemmas.List.Elements.{filter_passes}
use Rattle.kms_world.proofs.laws.what_hangs_on_a_row_goes_with_it.Goals as goal

pub returns-clause-secrets : goal.returns-clause-secrets
returns-clause-secrets c = λ id s. filter_passes _ s.secrets

pub returns-clause-containers : goal.returns-clause-containers
returns-clause-containers c = λ id s. filter_passes _ s.containers

pub returns-clause-orders : goal.returns-clause-orders
returns-clause-orders c = λ id s. filter_passes _ s.orders

pub returns-clause-consumers : goal.returns-clause-consumers
returns-clause-consumers c = λ id s. filter_passes _ s.consumers

pub returns-clause-acls : goal.returns-clause-acls
returns-clause-acls c = λ id s. filter_passes _ s.acls
