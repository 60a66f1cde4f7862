use Rattle.kms_words.proofs.CommandLaws.{reads_what_is_spelled}
use Rattle.kms_words.proofs.laws.what_is_spelled_is_read.Goals as goal

pub returns : goal.returns
returns c = reads_what_is_spelled
