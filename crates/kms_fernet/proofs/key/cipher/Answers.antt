use Rattle.std.proofs.Common.{◌≤◌, ◌∙◌, length, drop, arith}
use Rattle.std.proofs.lemmas.List.{take_all, length-drop}
use Rattle.kms_fernet.proofs.key.cipher.Goals as goal

pub returns : goal.returns
returns c =
    let rest = length-drop 16 c.args.key.now in
    let told = c.told-key in
    let within : length (drop 16 c.args.key.now) ≤ 16 = omega arith in
    c.new.ensures ∙ c.copy_from_slice.ensures.after ∙ take_all 16 (drop 16 c.args.key.now) within
