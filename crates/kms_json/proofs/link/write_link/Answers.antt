use Rattle.kms_json.proofs.TokenLaws.{one, then}
use Rattle.kms_json.proofs.link.write_link.Goals as goal

pub returns : goal.returns
returns c = rw (c.key.ensures, c.as_str.ensures.value, c.in_ok-text.ensures) at (then (one c.in_ok-begin_object.ensures) (then c.in_ok-put_text.ensures (one c.in_ok-end_object.ensures)))
