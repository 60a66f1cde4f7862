use Rattle.std.proofs.Common.{arith}
use Rattle.kms_aes.proofs.Multiples.{product_14}
use Rattle.kms_aes.proofs.state.times_14.Goals as goal

pub returns : goal.returns
returns c = let rule = product_14 c.args.byte (omega arith) in cc
