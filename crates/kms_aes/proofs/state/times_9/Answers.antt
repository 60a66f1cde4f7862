use Rattle.std.proofs.Common.{arith}
use Rattle.kms_aes.proofs.Multiples.{product_9}
use Rattle.kms_aes.proofs.state.times_9.Goals as goal

pub returns : goal.returns
returns c = let rule = product_9 c.args.byte (omega arith) in cc
