use Rattle.std.proofs.Common.{arith}
use Rattle.kms_aes.specs.Cipher.{sum_of_four}
use Rattle.kms_aes.proofs.Multiples.{product_2, product_3}
use Rattle.kms_aes.proofs.state.mixed.Goals as goal

pub returns : goal.returns
unfolding sum_of_four
returns c =
    let twice = product_2 c.args.a (omega arith) in
    let thrice = product_3 c.args.b (omega arith) in
    cc
