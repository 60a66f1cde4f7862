use Rattle.std.proofs.Common.{◌≡◌, ◌++◌, take, drop}
use Rattle.kms_aes.specs.Field.{sum_of}
use Rattle.kms_aes.proofs.state.add.Given as goal

abbrev pub invariant-loop-i : goal.invariant-loop-i
invariant-loop-i l = l.state ≡ sum_of (take l.i l.fn.state) (take l.i l.key) ++ drop l.i l.fn.state
