use Rattle.std.proofs.Common.{◌<◌, length, get_or, arith, sym}
use Rattle.std.proofs.lemmas.List.Edits.{map_over_more}
use Rattle.std.proofs.lemmas.Grind.{common_steps, get_or_default_zero}
use Rattle.kms_aes.specs.SBox.{substitute}
use Rattle.kms_aes.specs.Cipher.{sub_bytes}
use Rattle.kms_aes.proofs.sbox.substituted.Goals as goal

pub loop-byte-preserved : goal.loop-byte-preserved
loop-byte-preserved c =
    let bytes = c.loop-byte.byte-items in
    let i = c.loop-byte.byte-index in
    let here : i < length bytes = omega arith in
    rw c.substituted_byte.ensures
    (map_over_more substitute c.args.state.now bytes i (get_or bytes i 0) (omega arith) c.loop-byte.invariant
    (sym (get_or_default_zero bytes i (get_or bytes i 0) here)))

pub returns : goal.returns
unfolding sub_bytes
returns c = grind (arith, common_steps)
