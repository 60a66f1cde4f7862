use Rattle.std.proofs.Common.{arith}
use Rattle.kms_aes.proofs.States.{sum_of-more}
use Rattle.kms_aes.proofs.state.add.Goals as goal

pub loop-i-preserved : goal.loop-i-preserved
loop-i-preserved c =
    sum_of-more c.args.state.now c.args.key.now c.loop-i.state c.loop-i.i (omega arith) (omega arith) c.loop-i.invariant
