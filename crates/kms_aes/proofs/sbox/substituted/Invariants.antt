use Rattle.std.proofs.Common.{◌≡◌, ◌++◌, take, drop, map}
use Rattle.kms_aes.specs.SBox.{substitute}
use Rattle.kms_aes.proofs.sbox.substituted.Given as goal

abbrev pub invariant-loop-byte : goal.invariant-loop-byte
invariant-loop-byte l = l.byte-items ≡ map substitute (take l.byte-index l.state) ++ drop l.byte-index l.state
