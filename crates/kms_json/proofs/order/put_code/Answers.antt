use Rattle.kms_json.proofs.order.put_code.Goals as goal

pub returns-in-Error : goal.returns-in-Error
returns-in-Error c = rw c.in-Error.is (rw c.code.ensures at c.put_text.ensures)
