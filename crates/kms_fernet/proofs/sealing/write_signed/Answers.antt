use Rattle.std.proofs.Common.{◌≡◌, ◌+◌, ◌-◌, ◌∙◌, ℕ, List, length, take, drop, ap, arith}
use Rattle.std.proofs.lemmas.List.{length-drop, length-take}
use borrow.Rule.Slice.PartMut.{put_mid}
use Rattle.kms_fernet.specs.Cbc.{cbc}
use Rattle.kms_fernet.specs.Key.{enciphering_key}
use Rattle.kms_fernet.specs.Token.{signed_part}
use Rattle.kms_fernet.proofs.TokenLaws.{body_read, length-put_end, signed_written}
use Rattle.kms_fernet.proofs.sealing.write_signed.Goals as goal

pub returns : goal.returns
returns c =
    let head = c.put-3.new.out in
    let body = c.write_padded.new.out in
    let k = length head - 25 in
    let n = length (put_mid 25 k head body) - 25 in
    let size = c.requires in
    let a = c.put.auto.out in
    let b = c.put-2.auto.out in
    let d = c.put-3.auto.out in
    let whole : length head ≡ 25 + k = omega arith in
    let part = length-take k (drop 25 head) in
    let rest = length-drop 25 head in
    let e = c.write_padded.auto.out in
    let body_len : length body ≡ k = omega arith in
    let all : length (put_mid 25 k head body) ≡ 25 + k = length-put_end 25 k head body whole body_len in
    let read = body_read head body k n whole body_len (omega arith) in
    signed_written c.args.out.now c.put.new.out c.put-2.new.out head body c.encipher.new.text c.args.iv.now c.to_be_bytes.result
    c.args.moment k n c.put.ensures c.to_be_bytes.ensures c.put-2.ensures c.told-iv c.put-3.ensures
    (omega arith) (omega arith) (omega arith)
    ∙ ap (signed_part c.args.moment c.args.iv.now)
    (c.encipher.ensures
    ∙ ap (λ (t : List ℕ). cbc t c.args.iv.now (take n (drop 25 (put_mid 25 k head body)))) c.cipher.ensures
    ∙ ap (cbc (enciphering_key c.args.key.now) c.args.iv.now) (read ∙ c.write_padded.ensures))
