use Rattle.std.proofs.Common.{◌≡◌, ◌++◌, take, drop}
use Rattle.kms_fernet.specs.Hmac.{masked}
use Rattle.kms_fernet.proofs.hmac.mask_block.Given as goal

abbrev pub invariant-loop-byte : goal.invariant-loop-byte
invariant-loop-byte l =
    l.byte-items ≡ masked l.mask (take l.byte-index l.block) ++ drop l.byte-index l.block
