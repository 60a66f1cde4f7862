use Rattle.kms_model.proofs.StatusLaws.{has_status}
use Rattle.kms_model.proofs.laws.answers_have_statuses_of_success.Goals as goal

pub returns : goal.returns
returns c = has_status
