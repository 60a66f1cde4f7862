use Rattle.kms_record.proofs.SizeLaws.{length-record_bytes}
use Rattle.kms_record.proofs.laws.record_is_as_long_as_its_steps.Goals as goal

pub returns : goal.returns
returns c = length-record_bytes
