use Rattle.std.proofs.Common.{◌<◌, arith}
use Rattle.kms_aes.proofs.Multiples.{doubled_low, doubled_high}
use Rattle.kms_aes.proofs.state.doubled.Goals as goal

pub returns-then-byte-lt128 : goal.returns-then-byte-lt128
returns-then-byte-lt128 c = doubled_low c.args.byte c.if-byte-lt128.true

pub returns-else-byte-lt128 : goal.returns-else-byte-lt128
returns-else-byte-lt128 c =
    let byte : c.args.byte < 256 = omega arith in
    doubled_high c.args.byte byte c.if-byte-lt128.false
