use Rattle.kms_json.proofs.TokenLaws.{one, then}
use Rattle.kms_json.proofs.list.put_rows.Goals as goal

pub returns : goal.returns
returns c = rw c.name.ensures at (then (one c.in_ok-key.ensures) c.in_ok-write_rows.ensures)
