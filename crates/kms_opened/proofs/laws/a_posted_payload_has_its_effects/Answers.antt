use Rattle.kms_opened.proofs.StepLaws.{posted_have, key_have}
use Rattle.kms_opened.proofs.laws.a_posted_payload_has_its_effects.Goals as goal

pub returns : goal.returns
returns c = record { posted = posted_have; key = key_have }
