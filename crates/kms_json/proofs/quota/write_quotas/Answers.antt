use Rattle.kms_json.proofs.TokenLaws.{one, then}
use Rattle.kms_json.proofs.quota.write_quotas.Goals as goal

pub returns : goal.returns
returns c = then (one c.in_ok-begin_object.ensures) (then (one c.in_ok-key.ensures) (then c.in_ok-write_limits.ensures (one c.in_ok-end_object.ensures)))
