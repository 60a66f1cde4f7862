use Rattle.kms_json.proofs.TokenLaws.{one, then}
use Rattle.kms_json.proofs.quota.write_project.Goals as goal

pub returns : goal.returns
returns c = rw c.as_str.ensures at (then (one c.in_ok-begin_object.ensures) (then c.in_ok-put_text.ensures (then (one c.in_ok-key.ensures) (then c.in_ok-write_limits.ensures (one c.in_ok-end_object.ensures)))))
