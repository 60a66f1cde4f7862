use Rattle.kms_opened.proofs.OpenLaws.{change_opens}
use Rattle.kms_opened.proofs.laws.a_change_keeps_what_is_opened.Goals as goal

pub returns : goal.returns
returns c = change_opens
