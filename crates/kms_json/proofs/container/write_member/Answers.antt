use Rattle.kms_json.proofs.TokenLaws.{one, then}
use Rattle.kms_json.proofs.container.write_member.Goals as goal

pub returns : goal.returns
returns c = then (one c.in_ok-begin_object.ensures) (then c.in_ok-put_optional_text.ensures (then c.in_ok-put_link.ensures (one c.in_ok-end_object.ensures)))
