use Rattle.std.proofs.Common.{arith}
use Rattle.kms_aes.proofs.Tables.{table_entry}
use Rattle.kms_aes.proofs.sbox.substituted_byte.Goals as goal

pub returns : goal.returns
returns c = table_entry c.args.byte (omega arith)
