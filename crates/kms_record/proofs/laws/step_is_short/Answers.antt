use Rattle.kms_record.proofs.SizeLaws.{step_is_short_lem}
use Rattle.kms_record.proofs.laws.step_is_short.Goals as goal

pub returns : goal.returns
returns c = step_is_short_lem
