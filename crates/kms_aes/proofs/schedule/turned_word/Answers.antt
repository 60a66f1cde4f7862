use Rattle.kms_aes.proofs.ScheduleLaws.{turned_words}
use Rattle.kms_aes.proofs.schedule.turned_word.Goals as goal

pub returns : goal.returns
returns c =
    turned_words c.args.word.now c.args.constant _ _ _ _ c.told-word
    c.substituted_byte.ensures c.substituted_byte-2.ensures c.substituted_byte-3.ensures c.substituted_byte-4.ensures
