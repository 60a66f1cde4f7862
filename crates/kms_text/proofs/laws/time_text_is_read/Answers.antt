use Rattle.kms_text.proofs.TimeRoundLemmas.{time_read}
use Rattle.kms_text.proofs.laws.time_text_is_read.Goals as goal

pub returns : goal.returns
returns c = time_read c.args.moment c.requires
