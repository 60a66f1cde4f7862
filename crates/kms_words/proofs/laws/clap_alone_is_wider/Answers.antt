use Rattle.kms_words.proofs.WiderLaws.{wider}
use Rattle.kms_words.proofs.laws.clap_alone_is_wider.Goals as goal

pub returns : goal.returns
returns c = wider
