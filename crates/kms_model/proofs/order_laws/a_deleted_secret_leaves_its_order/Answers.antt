use Rattle.kms_model.proofs.DeletionLaws.{container_leaves, secret_leaves}
use Rattle.kms_model.proofs.order_laws.a_deleted_secret_leaves_its_order.Goals as goal

pub returns-clause-secret : goal.returns-clause-secret
returns-clause-secret c = secret_leaves

pub returns-clause-container : goal.returns-clause-container
returns-clause-container c = container_leaves
