use Rattle.std.proofs.Common.{◌≡◌, take, drop, map}
use Rattle.kms_aes.specs.SBox.{substitute}
use Rattle.kms_aes.proofs.sbox.unsubstituted.Given as goal

abbrev pub invariant-loop-byte : goal.invariant-loop-byte
invariant-loop-byte l = record {
  done : map substitute (take l.byte-index l.byte-items) ≡ take l.byte-index l.state;
  rest : drop l.byte-index l.byte-items ≡ drop l.byte-index l.state;
}
