use Rattle.std.proofs.Common.{◌++◌, ◌-◌, length, drop, ap, arith}
use Rattle.std.proofs.lemmas.List.{length-drop, length-append, length-take}
use Rattle.kms_fernet.proofs.TokenLaws.{padded_written}
use Rattle.kms_fernet.proofs.sealing.write_padded.Goals as goal

pub returns : goal.returns
returns c =
    padded_written c.args.plain.now c.copy_from_slice.new.self c.args.out.now c.fill.new.self _ _ _ c.requires c.copy_from_slice.ensures.after
    (omega arith)
    (c.fill.ensures.after (λ y h. h))
    (let copied = c.copy_from_slice.ensures.after in
    let same = ap length copied in
    let whole = length-append c.copy_from_slice.new.self (drop (length c.args.plain.now) c.args.out.now) in
    let rest = length-drop (length c.args.plain.now) c.args.out.now in
    let at = length-drop (length c.args.plain.now) (c.copy_from_slice.new.self ++ drop (length c.args.plain.now) c.args.out.now) in
    let part = length-take (length (c.copy_from_slice.new.self ++ drop (length c.args.plain.now) c.args.out.now) - length c.args.plain.now)
    (drop (length c.args.plain.now) (c.copy_from_slice.new.self ++ drop (length c.args.plain.now) c.args.out.now)) in
    omega arith)
    (omega arith)
