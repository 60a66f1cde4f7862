use Rattle.kms_text.proofs.RoundLemmas.{counts_equal}
use Rattle.kms_text.proofs.laws.id_texts_are_apart.Goals as goal

pub returns : goal.returns
returns c = counts_equal c.args.tag c.args.first c.args.second c.requires.tag c.requires.first c.requires.second c.requires.equal
