use Rattle.kms_kept.proofs.KeptLaws.{record-append}
use Rattle.kms_kept.proofs.laws.records_apply_in_order.Goals as goal

pub returns : goal.returns
returns c = record-append
