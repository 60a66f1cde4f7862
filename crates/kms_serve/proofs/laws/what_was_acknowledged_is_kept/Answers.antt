use Rattle.kms_serve.proofs.AcknowledgedLaws.{acknowledged_kept}
use Rattle.kms_serve.proofs.laws.what_was_acknowledged_is_kept.Goals as goal

pub returns : goal.returns
returns c = acknowledged_kept
