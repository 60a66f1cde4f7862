use Rattle.std.proofs.Common.{arith}
use Rattle.kms_aes.proofs.Tables.{inverse_entry}
use Rattle.kms_aes.proofs.sbox.unsubstituted_byte.Goals as goal

pub returns : goal.returns
returns c = inverse_entry c.args.byte (omega arith)
