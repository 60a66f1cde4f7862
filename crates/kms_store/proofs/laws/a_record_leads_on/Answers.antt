use Rattle.kms_store.proofs.StandsLaws.{record_leads}
use Rattle.kms_store.proofs.laws.a_record_leads_on.Goals as goal

pub returns : goal.returns
returns c = record_leads
