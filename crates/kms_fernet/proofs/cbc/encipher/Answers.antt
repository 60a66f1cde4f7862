use Rattle.std.proofs.Common.{rules, ◌≡◌, ℕ, List, ◌+◌, ◌-◌, ◌*◌, ◌/◌, ◌≤◌, ◌++◌, length, take, drop, arith, refl, ap, sym, ◌∙◌}
use Rattle.std.proofs.lemmas.List.{places}
use Rattle.std.proofs.lemmas.Slice.{take-put_mid, drop-put_mid}
use Rattle.kms_fernet.proofs.CbcLaws.{cbc-chain, drop-add, enciphered_more, enciphered_all}
use Rattle.kms_fernet.proofs.cbc.encipher.Goals as goal

pub loop-i-init : goal.loop-i-init
loop-i-init c = record {
  len = refl;
  done = sym (cbc-chain c.args.key.now c.args.iv.now c.args.text.now (length c.args.text.now / 16 - 0) (omega arith));
  rest = refl;
}

pub loop-i-preserved : goal.loop-i-preserved
loop-i-preserved c =
    let text = c.args.text.now in
    let now = c.loop-i.text in
    let i = c.loop-i.i in
    let enciphered = c.next_block-before.result in
    let written = c.copy_from_slice.new.self in
    let len : length now ≡ length text = c.loop-i.invariant.len in
    let fits : 16 * i + 16 ≤ length now = omega arith in
    let begins : 16 * i ≤ length now = omega arith in
    let written_len : length written ≡ 16 = ap length c.copy_from_slice.ensures.after ∙ c.next_block-before.ensures.block.len in
    let width : 16 * i + 16 - 16 * i ≡ 16 = omega arith in
    record {
      len = search (rules, places);
      done =
          enciphered_more c.args.key.now text now _ c.loop-i.before _ enciphered _ i (length text / 16) (omega arith)
          c.loop-i.invariant.done c.loop-i.invariant.rest
          (ap (λ (n : ℕ). take n (drop (16 * i) now)) width)
          c.next_block-before.ensures.enciphered
          (take-put_mid (16 * i) (16 * i + 16 - 16 * i) now written (16 * (i + 1)) (omega arith) begins
          ∙ ap (λ (t : List ℕ). take (16 * i) now ++ t) c.copy_from_slice.ensures.after);
      rest =
          drop-put_mid (16 * i) (16 * i + 16 - 16 * i) now written (16 * (i + 1)) (omega arith) begins (omega arith)
          ∙ sym (drop-add (16 * i) i now (omega arith))
          ∙ ap (drop 16) c.loop-i.invariant.rest
          ∙ drop-add (16 * i) i text (omega arith);
    }

pub returns : goal.returns
returns c =
    let len = c.loop-i.invariant.len in
    enciphered_all c.args.key.now c.args.text.now c.loop-i.text c.loop-i.before _ c.loop-i.i (length c.args.text.now / 16)
    (omega arith) (omega arith) c.loop-i.invariant.done
