use Rattle.kms_json.proofs.TokenLaws.{one, then}
use Rattle.kms_json.proofs.refused.write_error.Goals as goal

pub returns : goal.returns
returns c = rw (c.from.ensures, c.status.ensures, c.as_str.ensures.value, c.in_ok-description.ensures, c.title.ensures) at (then (one c.in_ok-begin_object.ensures) (then c.in_ok-put_number.ensures (then c.in_ok-put_text.ensures (then c.in_ok-put_text-2.ensures (one c.in_ok-end_object.ensures)))))
