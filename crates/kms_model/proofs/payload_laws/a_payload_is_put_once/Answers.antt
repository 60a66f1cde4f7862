use Rattle.kms_model.proofs.PayloadTests.{put_once}
use Rattle.kms_model.proofs.payload_laws.a_payload_is_put_once.Goals as goal

pub returns : goal.returns
returns c = put_once
