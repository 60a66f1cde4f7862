use Rattle.kms_json.proofs.TokenLaws.{one, then}
use Rattle.kms_json.proofs.order.put_last.Goals as goal

pub returns : goal.returns
returns c = rw c.status.ensures at (then c.in_ok-put_text.ensures (then c.in_ok-put_text-2.ensures (then c.in_ok-put_time.ensures (one c.in_ok-end_object.ensures))))
