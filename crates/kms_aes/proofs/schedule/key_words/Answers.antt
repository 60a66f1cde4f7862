use Rattle.std.proofs.Common.{arith, refl, ◌∙◌}
use Rattle.std.proofs.lemmas.List.{length-set}
use Rattle.kms_aes.proofs.ScheduleLaws.{first_words-none, first_words-more, first_words-all}
use Rattle.kms_aes.proofs.schedule.key_words.Goals as goal

pub loop-i-init : goal.loop-i-init
loop-i-init c = record { len = refl; done = first_words-none c.args.key.now c.told-key }

pub loop-i-preserved : goal.loop-i-preserved
loop-i-preserved c =
    let len = c.loop-i.invariant.len in
    record {
      len = length-set c.loop-i.words c.loop-i.i c.next_word.result ∙ len;
      done = first_words-more c.args.key.now c.loop-i.words c.loop-i.i c.next_word.result (omega arith) (omega arith)
          c.loop-i.invariant.done c.next_word.ensures;
    }

pub returns : goal.returns
returns c =
    first_words-all c.args.key.now c.loop-i.words c.loop-i.i c.loop-i.invariant.len (omega arith) c.loop-i.invariant.done
