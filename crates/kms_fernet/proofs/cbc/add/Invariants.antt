use Rattle.std.proofs.Common.{◌≡◌, ◌++◌, take, drop}
use Rattle.kms_aes.specs.Field.{sum_of}
use Rattle.kms_fernet.proofs.cbc.add.Given as goal

abbrev pub invariant-loop-i : goal.invariant-loop-i
invariant-loop-i l = l.block ≡ sum_of (take l.i l.fn.block) (take l.i l.other) ++ drop l.i l.fn.block
