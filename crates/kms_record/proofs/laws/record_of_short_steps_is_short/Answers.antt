use Rattle.kms_record.proofs.SizeLaws.{record_is_short}
use Rattle.kms_record.proofs.laws.record_of_short_steps_is_short.Goals as goal

pub returns : goal.returns
returns c = record_is_short
