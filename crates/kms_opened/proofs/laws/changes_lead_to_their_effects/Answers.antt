use Rattle.kms_opened.proofs.OpenLaws.{changes_open}
use Rattle.kms_opened.proofs.laws.changes_lead_to_their_effects.Goals as goal

pub returns : goal.returns
returns c = changes_open
