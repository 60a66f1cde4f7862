use Rattle.std.proofs.Common.{ℕ, List, arith, ap, ◌∙◌}
use Rattle.kms_aes.specs.Field.{sum_of}
use Rattle.kms_aes.specs.KeyExpansion.{round_key}
use Rattle.kms_aes.specs.Cipher.{shift_rows, mix_columns}
use Rattle.kms_aes.proofs.RoundLaws.{key_of_round, after_rounds-none, after_rounds-more, encrypt-all}
use Rattle.kms_aes.proofs.key.Key.encrypted.Goals as goal

pub loop-round-init : goal.loop-round-init
loop-round-init c =
    after_rounds-none c.args.self.now c.args.block.now c.added-state.result
    (c.added-state.ensures.sum
    ∙ ap (sum_of c.args.block.now) (key_of_round _ c.self.inside.round_keys c.self.view_is c.self.invariant.1 0 (omega arith)))

pub loop-round-preserved : goal.loop-round-preserved
loop-round-preserved c =
    after_rounds-more c.args.self.now c.args.block.now c.loop-round.state c.added-state-in-loop-round.result c.loop-round.round
    (omega arith) c.loop-round.invariant
    (c.added-state-in-loop-round.ensures.sum
    ∙ ap (sum_of c.mixed_columns-mixed.result)
    (key_of_round _ c.self.inside.round_keys c.self.view_is c.self.invariant.1 c.loop-round.round (omega arith))
    ∙ ap (λ (t : List ℕ). sum_of t (round_key c.args.self.now c.loop-round.round))
    (c.mixed_columns-mixed.ensures ∙ ap mix_columns (c.shifted_rows-shifted.ensures ∙ ap shift_rows c.substituted.ensures)))

pub returns-clause-enciphered : goal.returns-clause-enciphered
returns-clause-enciphered c =
    encrypt-all c.args.self.now c.args.block.now c.loop-round.state c.added.result c.loop-round.round
    (omega arith) c.loop-round.invariant
    (c.added.ensures.sum
    ∙ ap (sum_of c.shifted_rows.result)
    (key_of_round _ c.self.inside.round_keys c.self.view_is c.self.invariant.1 10 (omega arith))
    ∙ ap (λ (t : List ℕ). sum_of t (round_key c.args.self.now 10)) (c.shifted_rows.ensures ∙ ap shift_rows c.substituted-2.ensures))
