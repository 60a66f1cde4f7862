use Rattle.kms_store.proofs.StagedLaws.{nothing_leads}
use Rattle.kms_store.proofs.laws.nothing_staged_leads_nowhere.Goals as goal

pub returns : goal.returns
returns c = nothing_leads
