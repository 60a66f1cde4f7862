use Rattle.std.proofs.Common.{◌≡◌, ◌-◌, length, drop, arith}
use Rattle.std.proofs.lemmas.List.{length-take}
use Rattle.kms_fernet.proofs.TokenLaws.{token_written}
use Rattle.kms_fernet.proofs.sealing.write_bytes.Goals as goal

pub returns : goal.returns
returns c =
    let raw = c.args.raw.now in
    let end = length raw - 32 in
    let size = c.requires in
    let front = length-take end raw in
    let kept = c.write_signed.auto.out in
    let signed_len : length c.write_signed.new.out ≡ end = omega arith in
    token_written c.args.key.now c.args.iv.now c.args.plain.now c.write_signed.new.out (drop end raw) c.copy_from_slice.new.self
    c.args.moment end _ c.tag-tag.result signed_len (omega arith)
    c.write_signed.ensures c.copy_from_slice.ensures.after c.tag-tag.ensures
