use Rattle.kms_record.proofs.Codec.{one_reading}
use Rattle.kms_record.proofs.GrammarLaws.{step_codec}
use Rattle.kms_record.proofs.laws.no_step_begins_another.Goals as goal

pub returns : goal.returns
returns c = one_reading step_codec
