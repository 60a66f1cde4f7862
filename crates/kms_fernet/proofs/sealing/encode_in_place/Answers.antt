use Rattle.std.proofs.Common.{◌≡◌, ◌+◌, ◌-◌, ◌*◌, ◌/◌, ℕ, length, take, drop, arith, refl, sym, subst}
use Rattle.base64.specs.Engines.{url_safe}
use Rattle.base64.proofs.EngineFacts.{encode_of-nil}
use Rattle.kms_fernet.specs.Key.{base64url}
use Rattle.kms_fernet.proofs.Base64Laws.{encoded_more, encoded_all}
use Rattle.kms_fernet.proofs.sealing.encode_in_place.Goals as goal

pub loop-i-init : goal.loop-i-init
loop-i-init c = record { done = sym (encode_of-nil url_safe); rest = refl }

pub loop-i-preserved : goal.loop-i-preserved
loop-i-preserved c =
    let more = encoded_more c.args.text.now c.loop-i.text c.encode_piece.new.text c.args.from c.loop-i.i
    (omega arith) (omega arith) (omega arith) c.loop-i.invariant.done c.loop-i.invariant.rest c.encode_piece.ensures in
    record { done = more.0; rest = more.1 }

pub returns : goal.returns
returns c =
    let whole = (length c.args.text.now - c.args.from) / 48 in
    let end : c.loop-i.i ≡ whole = omega arith in
    encoded_all c.args.text.now c.loop-i.text c.encode_piece-2.new.text c.args.from whole
    (length c.args.text.now - c.args.from - 48 * whole)
    (64 * whole + (length c.args.text.now - c.args.from - 48 * whole + 2) / 3 * 4)
    (omega arith) (omega arith) (omega arith) (omega arith)
    (subst (λ (n : ℕ). take (64 * n) c.loop-i.text ≡ base64url (take (48 * n) (drop c.args.from c.args.text.now))) end
    c.loop-i.invariant.done)
    (subst (λ (n : ℕ). drop (c.args.from + 48 * n) c.loop-i.text ≡ drop (c.args.from + 48 * n) c.args.text.now) end
    c.loop-i.invariant.rest)
    c.encode_piece-2.ensures
