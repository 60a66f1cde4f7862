use Rattle.kms_text.proofs.TimeGrammarLemmas.{time_grammar}
use Rattle.kms_text.proofs.laws.times_are_by_the_grammar.Goals as goal

pub returns : goal.returns
returns c = time_grammar c.args.text.now
