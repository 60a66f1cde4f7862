use Rattle.std.proofs.Common.{arith}
use Rattle.kms_aes.proofs.Multiples.{product_13}
use Rattle.kms_aes.proofs.state.times_13.Goals as goal

pub returns : goal.returns
returns c = let rule = product_13 c.args.byte (omega arith) in cc
