use Rattle.kms_json.proofs.TokenLaws.{one, then, then_optional}
use Rattle.kms_json.proofs.secret.write_secret.Goals as goal

pub returns : goal.returns
returns c = then (one c.in_ok-begin_object.ensures) (then c.in_ok-put_optional_text.ensures (then c.in_ok-put_optional_number.ensures (then_optional _ _ _ c.in_ok-put_payload_types.ensures c.in_ok-put_later.ensures)))
