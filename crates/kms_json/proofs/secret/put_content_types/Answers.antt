use Rattle.kms_json.proofs.TokenLaws.{one, then}
use Rattle.kms_json.proofs.secret.put_content_types.Goals as goal

pub returns : goal.returns
returns c = rw c.word.ensures at (then (one c.in_ok-key.ensures) (then (one c.in_ok-begin_object.ensures) (then c.in_ok-put_text.ensures (one c.in_ok-end_object.ensures))))
