use Rattle.kms_json.proofs.TokenLaws.{one, then}
use Rattle.kms_json.proofs.order.put_meta.Goals as goal

pub returns : goal.returns
returns c = rw (c.as_str.ensures, c.from.ensures, c.word.ensures) at (then (one c.in_ok-key.ensures) (then (one c.in_ok-begin_object.ensures) (then c.in_ok-put_text.ensures (then c.in_ok-put_number.ensures (then c.in_ok-put_optional_time.ensures (then c.in_ok-put_optional_text.ensures (then c.in_ok-put_optional_text-2.ensures (then c.in_ok-put_text-2.ensures (one c.in_ok-end_object.ensures)))))))))
