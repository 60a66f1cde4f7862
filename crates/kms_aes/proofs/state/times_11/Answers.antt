use Rattle.std.proofs.Common.{arith}
use Rattle.kms_aes.proofs.Multiples.{product_11}
use Rattle.kms_aes.proofs.state.times_11.Goals as goal

pub returns : goal.returns
returns c = let rule = product_11 c.args.byte (omega arith) in cc
