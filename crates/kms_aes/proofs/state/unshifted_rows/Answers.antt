use Rattle.std.proofs.Common.{sym}
use Rattle.kms_aes.specs.Cipher.{shift_rows}
use Rattle.kms_aes.proofs.States.{sixteen}
use Rattle.kms_aes.proofs.state.unshifted_rows.Goals as goal

pub returns : goal.returns
unfolding shift_rows
returns c = sym (sixteen c.args.s.now c.told-s)
