use Rattle.std.proofs.Common.{◌≡◌, [], length, arith, refl, below_more, get_or-set_other, get_or-set_same, ◌∙◌}
use Rattle.std.proofs.lemmas.List.{length-set}
use Rattle.kms_aes.proofs.ScheduleLaws.{round_key-words}
use Rattle.kms_aes.proofs.schedule.round_keys.Goals as goal

pub loop-round-init : goal.loop-round-init
loop-round-init c = record { len = refl; done = λ k h. absurd (omega arith) }

pub loop-round-preserved : goal.loop-round-preserved
loop-round-preserved c =
    let keys = c.loop-round.keys in
    let round = c.loop-round.round in
    let len : length keys ≡ 11 = c.loop-round.invariant.len in
    record {
      len = length-set keys round c.joined.result ∙ len;
      done =
          below_more _ _
          (λ k h. get_or-set_other keys round k c.joined.result [] (omega arith) ∙ c.loop-round.invariant.done k h)
          (get_or-set_same keys round c.joined.result [] (omega arith)
          ∙ c.joined.ensures
          ∙ round_key-words c.args.key.now c.key_words-words.result round c.key_words-words.ensures);
    }

pub returns : goal.returns
returns c = λ round h. c.loop-round.invariant.done round (omega arith)
