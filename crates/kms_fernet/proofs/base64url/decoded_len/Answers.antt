use Rattle.std.proofs.Common.{arith}
use Rattle.kms_fernet.proofs.RoomLaws.{none_of_short, size_of_unpadded, size_of_padded, size_of_padded_twice}
use Rattle.kms_fernet.proofs.base64url.decoded_len.Goals as goal

pub returns-then-len-lt4 : goal.returns-then-len-lt4
returns-then-len-lt4 c = λ bytes is. none_of_short c.args.text.now bytes c.if-len-lt4.true is

pub returns-then-text-len-ne61 : goal.returns-then-text-len-ne61
returns-then-text-len-ne61 c = λ bytes is.
    size_of_unpadded c.args.text.now bytes (omega (arith, c.if-len-lt4.false)) c.if-text-len-ne61.true is

pub returns-then-text-len-ne61-2 : goal.returns-then-text-len-ne61-2
returns-then-text-len-ne61-2 c = λ bytes is.
    size_of_padded c.args.text.now bytes (omega (arith, c.if-len-lt4.false)) (omega (arith, c.if-text-len-ne61.false)) c.if-text-len-ne61-2.true is

pub returns-else-text-len-ne61-2 : goal.returns-else-text-len-ne61-2
returns-else-text-len-ne61-2 c = λ bytes is.
    size_of_padded_twice c.args.text.now bytes (omega (arith, c.if-len-lt4.false)) (omega (arith, c.if-text-len-ne61.false))
    (omega (arith, c.if-text-len-ne61-2.false)) is
