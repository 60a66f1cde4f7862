use Rattle.kms_store.proofs.StagedLaws.{staged_leads}
use Rattle.kms_store.proofs.laws.a_staged_step_leads_on.Goals as goal

pub returns : goal.returns
returns c = staged_leads
