use Rattle.std.proofs.Common.{ℕ, ◌<◌, length, get_or, arith, sym, bit_xor}
use Rattle.std.proofs.lemmas.List.Edits.{map_over_more}
use Rattle.std.proofs.lemmas.Grind.{get_or_default_zero}
use Rattle.kms_fernet.proofs.hmac.mask_block.Goals as goal

pub loop-byte-preserved : goal.loop-byte-preserved
loop-byte-preserved c =
    let bytes = c.loop-byte.byte-items in
    let i = c.loop-byte.byte-index in
    let here : i < length bytes = omega arith in
    map_over_more (λ (b : ℕ). bit_xor b c.args.mask) c.args.block.now bytes i (get_or bytes i 0) (omega arith)
    c.loop-byte.invariant (sym (get_or_default_zero bytes i (get_or bytes i 0) here))
