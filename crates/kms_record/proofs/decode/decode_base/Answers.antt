use Rattle.std.proofs.Common.{sym, ◌∙◌, arith}
use Rattle.kms_record.proofs.GrammarLaws.{snapshot_read, snapshot_again}
use Rattle.kms_record.proofs.decode.decode_base.Goals as goal

pub returns-in-Ok : goal.returns-in-Ok
returns-in-Ok c = snapshot_read c.args.body.now c.in-Ok.changes (λ i. omega (arith, c.type_inv.body i)) c.in-Ok.ensures

pub returns-in-Err-Malformed : goal.returns-in-Err-Malformed
returns-in-Err-Malformed c = λ changes is. let e = sym (rw c.in-Err-Malformed.field-0-is at c.in-Err-Malformed.ensures) ∙ snapshot_again c.args.body.now changes is in absurd cc
