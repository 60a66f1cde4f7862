use Rattle.std.proofs.Common.{◌-◌, ℕ, List, arith, ap, sym, subst, ◌∙◌}
use Rattle.kms_aes.specs.Field.{sum_of}
use Rattle.kms_aes.specs.KeyExpansion.{round_key}
use Rattle.kms_aes.specs.Cipher.{IsBlock, shift_rows, mix_columns}
use Rattle.kms_aes.proofs.Uniqueness.{encrypt-apart}
use Rattle.kms_aes.proofs.RoundLaws.{key_of_round, finished-none, finished-more, finished-all}
use Rattle.kms_aes.proofs.key.Key.decrypted.Goals as goal

pub loop-done-init : goal.loop-done-init
loop-done-init c =
    finished-none c.args.self.now c.args.block.now c.unsubstituted-state.result
    (ap (λ (t : List ℕ). sum_of t (round_key c.args.self.now 10))
    (ap shift_rows c.unsubstituted-state.ensures ∙ c.unshifted_rows.ensures)
    ∙ ap (sum_of c.added-last.result)
    (sym (key_of_round _ c.self.inside.round_keys c.self.view_is c.self.invariant.1 10 (omega arith)))
    ∙ c.added-last.ensures.twice)

pub loop-done-preserved : goal.loop-done-preserved
loop-done-preserved c =
    finished-more c.args.self.now c.args.block.now c.loop-done.state c.unsubstituted-state-in-loop-done.result c.loop-done.done
    c.loop-done.invariant
    (ap (λ (t : List ℕ). sum_of t (round_key c.args.self.now (9 - c.loop-done.done)))
    (ap mix_columns (ap shift_rows c.unsubstituted-state-in-loop-done.ensures ∙ c.unshifted_rows-in-loop-done.ensures)
    ∙ c.unmixed_columns.ensures)
    ∙ ap (sum_of c.added-mixed.result)
    (sym (key_of_round _ c.self.inside.round_keys c.self.view_is c.self.invariant.1 (9 - c.loop-done.done) (omega arith)))
    ∙ c.added-mixed.ensures.twice)

pub returns-clause-back : goal.returns-clause-back
returns-clause-back c =
    finished-all c.args.self.now c.args.block.now c.loop-done.state c.added.result c.loop-done.done
    (omega arith) c.loop-done.invariant
    (ap (sum_of c.added.result)
    (sym (key_of_round _ c.self.inside.round_keys c.self.view_is c.self.invariant.1 0 (omega arith)))
    ∙ c.added.ensures.twice)

pub returns-clause-only : goal.returns-clause-only
returns-clause-only c = λ plain is_block same.
    encrypt-apart c.args.self.now plain c.added.result (subst IsBlock c.self.view_is c.self.invariant.0) is_block c.added.ensures.block
    (same ∙ sym (returns-clause-back c))
