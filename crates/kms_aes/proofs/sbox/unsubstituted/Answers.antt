use Rattle.std.proofs.Common.{arith}
use Rattle.std.proofs.lemmas.Grind.{common_steps}
use Rattle.kms_aes.specs.SBox.{substitute}
use Rattle.kms_aes.specs.Cipher.{sub_bytes}
use Rattle.kms_aes.proofs.States.{sought_more}
use Rattle.kms_aes.proofs.sbox.unsubstituted.Goals as goal

pub loop-byte-preserved : goal.loop-byte-preserved
loop-byte-preserved c =
    let more = sought_more substitute c.args.state.now c.loop-byte.byte-items c.loop-byte.byte-index c.unsubstituted_byte.result
    (omega arith) (omega arith) c.loop-byte.invariant.done c.loop-byte.invariant.rest c.unsubstituted_byte.ensures in
    record { done = more.0; rest = more.1 }

pub returns : goal.returns
unfolding sub_bytes
returns c = grind (arith, common_steps)
