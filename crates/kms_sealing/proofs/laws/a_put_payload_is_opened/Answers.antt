use Rattle.kms_sealing.proofs.SealLaws.{put_leads}
use Rattle.kms_sealing.proofs.laws.a_put_payload_is_opened.Goals as goal

pub returns : goal.returns
returns c = put_leads
