use Rattle.kms_sealing.proofs.SealLaws.{posted_leads}
use Rattle.kms_sealing.proofs.laws.a_posted_payload_is_opened.Goals as goal

pub returns : goal.returns
returns c = posted_leads
