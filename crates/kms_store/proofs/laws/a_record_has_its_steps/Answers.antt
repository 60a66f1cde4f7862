use Rattle.kms_store.proofs.StandsLaws.{record_counts}
use Rattle.kms_store.proofs.laws.a_record_has_its_steps.Goals as goal

pub returns : goal.returns
returns c = record_counts
