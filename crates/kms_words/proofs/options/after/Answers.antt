use Rattle.kms_words.proofs.OptionLaws.{after-is}
use Rattle.kms_words.proofs.options.after.Goals as goal

pub returns : goal.returns
returns c = after-is c.strip_prefix.result c.args.front.now c.args.word.now c.strip_prefix.ensures.cases
