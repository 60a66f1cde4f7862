use Rattle.std.proofs.Common.{◌≡◌, List, ℕ, [], get_or, arith, sym, subst, ◌∙◌}
use Rattle.kms_aes.specs.KeyExpansion.{IsSchedule}
use Rattle.kms_aes.specs.Cipher.{IsBlock}
use Rattle.kms_aes.proofs.ScheduleLaws.{round_key-zero}
use Rattle.kms_aes.proofs.key.Key.expanded.Goals as goal

pub invariant_of-result : goal.invariant_of-result
invariant_of-result c =
    let first : get_or c.round_keys.result 0 [] ≡ c.args.bytes.now
    = c.round_keys.ensures 0 (omega arith) ∙ round_key-zero c.args.bytes.now c.told-bytes in
    subst (λ (key : List ℕ). IsBlock key × IsSchedule key c.round_keys.result) (sym first)
    (record { len = c.told-bytes; fits = c.fits-bytes }, c.round_keys.ensures)

pub returns : goal.returns
returns c = c.round_keys.ensures 0 (omega arith) ∙ round_key-zero c.args.bytes.now c.told-bytes
