use Rattle.kms_aes.proofs.ScheduleLaws.{next_word-first, next_word-other}
use Rattle.kms_aes.proofs.schedule.next_word.Goals as goal

pub returns-then-i-eq0 : goal.returns-then-i-eq0
returns-then-i-eq0 c =
    next_word-first c.args.words.now c.args.i _ _ _ c.if-i-eq0.true
    c.round_constant.ensures c.turned_word.ensures c.added_word.ensures

pub returns-else-i-eq0 : goal.returns-else-i-eq0
returns-else-i-eq0 c = next_word-other c.args.words.now c.args.i _ c.if-i-eq0.false c.added_word-else-i-eq0.ensures
