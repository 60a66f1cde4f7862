use Rattle.kms_core.proofs.StandsLaws.{stands_opens}
use Rattle.kms_core.proofs.laws.what_stands_opens.Goals as goal

pub returns : goal.returns
returns c = stands_opens
