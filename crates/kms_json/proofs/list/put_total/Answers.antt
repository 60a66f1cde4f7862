use Rattle.kms_json.proofs.TokenLaws.{one, then}
use Rattle.kms_json.proofs.list.put_total.Goals as goal

pub returns : goal.returns
returns c = then c.in_ok-put_number.ensures (one c.in_ok-end_object.ensures)
