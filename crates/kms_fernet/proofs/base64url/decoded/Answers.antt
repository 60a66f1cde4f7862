use Rattle.std.proofs.Common.{arith, length, sym}
use Rattle.kms_fernet.proofs.RoomLaws.{decoded_at_front, undecoded_within}
use Rattle.kms_fernet.proofs.base64url.decoded.Goals as goal

pub returns-in-Ok-clause-spelled : goal.returns-in-Ok-clause-spelled
returns-in-Ok-clause-spelled c =
    decoded_at_front c.args.text.now c.args.room.now c.decode_slice.new.output c.in-Ok.n
    (λ i. let f = c.type_inv.text i in omega arith)
    (λ i. let f = c.type_inv.room i in omega arith)
    (sym c.in-Ok.ensures.value)
    c.in-Ok.ensures.written

pub returns-in-Err-clause-spelled : goal.returns-in-Err-clause-spelled
returns-in-Err-clause-spelled c =
    undecoded_within c.args.text.now (length c.args.room.now) c.in-Err.field-0 c.requires (sym c.in-Err.ensures.value)
