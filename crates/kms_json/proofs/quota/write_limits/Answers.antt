use Rattle.kms_json.proofs.TokenLaws.{one, then}
use Rattle.kms_json.proofs.quota.write_limits.Goals as goal

pub returns : goal.returns
returns c = then (one c.in_ok-begin_object.ensures) (then c.in_ok-put_optional_integer.ensures (then c.in_ok-put_optional_integer-2.ensures (then c.in_ok-put_optional_integer-3.ensures (then c.in_ok-put_optional_integer-4.ensures (one c.in_ok-end_object.ensures)))))
