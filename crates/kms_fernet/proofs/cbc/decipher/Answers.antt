use Rattle.std.proofs.Common.{rules, ◌≡◌, ℕ, List, ◌+◌, ◌-◌, ◌*◌, ◌≤◌, length, take, drop, arith, refl, ap, sym, subst, ◌∙◌}
use Rattle.std.proofs.lemmas.List.{places, drop-drop, length-take, length-drop}
use Rattle.std.proofs.lemmas.Slice.{take-put_mid, drop-put_mid}
use Rattle.kms_aes.specs.Field.{sum_of}
use Rattle.kms_aes.specs.Cipher.{encrypt}
use Rattle.kms_fernet.proofs.CbcLaws.{Deciphered, deciphered_none, deciphered_more, deciphered_all}
use Rattle.kms_fernet.proofs.cbc.decipher.Goals as goal

pub loop-i-init : goal.loop-i-init
loop-i-init c = record {
  len = refl;
  done = deciphered_none c.args.key.now c.args.iv.now (drop c.args.from c.args.room.now);
  rest = refl;
}

pub loop-i-preserved : goal.loop-i-preserved
loop-i-preserved c =
    let room = c.args.room.now in
    let now = c.loop-i.room in
    let from = c.args.from in
    let i = c.loop-i.i in
    let block = c.block_before-block.result in
    let written = c.copy_from_slice-in-loop-i.new.self in
    let len : length now ≡ length room = c.loop-i.invariant.len in
    let begins : 16 * i ≤ length now = omega arith in
    let part = length-take (16 * i + 16 - 16 * i) (drop (16 * i) now) in
    let rest_len = length-drop (16 * i) now in
    let same_len = c.copy_from_slice-in-loop-i.ensures.len in
    let written_len : length written ≡ 16 = omega arith in
    let width : from + 16 * i + 16 - (from + 16 * i) ≡ 16 = omega arith in
    let further : from + 16 * i + 16 ≡ from + 16 * (i + 1) = omega arith in
    record {
      len = search (rules, places);
      done =
          let front = take-put_mid (16 * i) (16 * i + 16 - 16 * i) now written (16 * (i + 1)) (omega arith) begins in
          subst (λ (t : List ℕ). Deciphered c.args.key.now c.args.iv.now (drop from room) c.copy_from_slice.new.self t (i + 1)) (sym front)
          (deciphered_more c.args.key.now c.args.iv.now (drop from room) c.loop-i.before (take (16 * i) now) written c.copy_from_slice.new.self i
          written_len c.loop-i.invariant.done
          (c.copy_from_slice.ensures.after
          ∙ ap (λ (n : ℕ). take n (drop (from + 16 * i) now)) width
          ∙ ap (take 16) (c.loop-i.invariant.rest ∙ sym (drop-drop (16 * i) from room)))
          (ap (λ (t : List ℕ). encrypt c.args.key.now (sum_of t c.loop-i.before)) c.copy_from_slice-in-loop-i.ensures.after
          ∙ c.block_before-block.ensures));
      rest =
          drop-put_mid (16 * i) (16 * i + 16 - 16 * i) now written (from + 16 * (i + 1)) (omega arith) begins (omega arith)
          ∙ ap (λ (n : ℕ). drop n now) (sym further)
          ∙ sym (drop-drop 16 (from + 16 * i) now)
          ∙ ap (drop 16) c.loop-i.invariant.rest
          ∙ drop-drop 16 (from + 16 * i) room
          ∙ ap (λ (n : ℕ). drop n room) further;
    }

pub returns : goal.returns
returns c =
    let len = c.loop-i.invariant.len in
    let size = length-take (16 * c.args.count) c.loop-i.room in
    let end : c.loop-i.i ≡ c.args.count = omega arith in
    deciphered_all c.args.key.now c.args.iv.now (drop c.args.from c.args.room.now) c.loop-i.before _ c.loop-i.i c.args.count
    end (omega arith)
    (subst (λ (n : ℕ). Deciphered c.args.key.now c.args.iv.now (drop c.args.from c.args.room.now) c.loop-i.before (take (16 * n) c.loop-i.room) c.loop-i.i)
    end c.loop-i.invariant.done)
