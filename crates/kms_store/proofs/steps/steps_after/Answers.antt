use Rattle.std.proofs.Common.{◌≡◌, arith}
use Rattle.kms_store.proofs.StepsLaws.{all_counted}
use Rattle.kms_store.proofs.steps.steps_after.Goals as goal

pub returns : goal.returns
returns c = λ n has.
    let k = (c.loop-bytes.invariant).1 n has in
    all_counted c.args.bodies.now c.loop-bytes.bytes-index k.0 c.loop-bytes.steps _ c.loop-bytes-test.false k.1 k.2 (c.loop-bytes.invariant).0
