use Rattle.std.proofs.Common.{sym, ◌∙◌, arith}
use Rattle.kms_record.proofs.GrammarLaws.{record_read, record_again}
use Rattle.kms_record.proofs.decode.decode_body.Goals as goal

pub returns-in-Ok : goal.returns-in-Ok
returns-in-Ok c = record_read c.args.body.now c.in-Ok.steps (λ i. omega (arith, c.type_inv.body i)) c.in-Ok.ensures

pub returns-in-Err-Malformed : goal.returns-in-Err-Malformed
returns-in-Err-Malformed c = λ steps is. let e = sym (rw c.in-Err-Malformed.field-0-is at c.in-Err-Malformed.ensures) ∙ record_again c.args.body.now steps is in absurd cc
