use Rattle.kms_json.proofs.TokenLaws.{one, then}
use Rattle.kms_json.proofs.container.write_consumer.Goals as goal

pub returns : goal.returns
returns c = rw (c.as_str.ensures, c.as_str-2.ensures) at (then (one c.in_ok-begin_object.ensures) (then c.in_ok-put_text.ensures (then c.in_ok-put_text-2.ensures (one c.in_ok-end_object.ensures))))
