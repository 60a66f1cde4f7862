use Rattle.kms_serve.proofs.NextLaws.{served_next}
use Rattle.kms_serve.proofs.laws.what_was_created_can_be_served.Goals as goal

pub returns : goal.returns
returns c = served_next
