use Rattle.kms_json.proofs.TokenLaws.{one, then}
use Rattle.kms_json.proofs.secret.put_later.Goals as goal

pub returns : goal.returns
returns c = rw (c.as_str.ensures, c.word.ensures) at (then c.in_ok-put_time.ensures (then c.in_ok-put_text.ensures (then c.in_ok-put_optional_time.ensures (then c.in_ok-put_optional_text.ensures (then c.in_ok-put_optional_text-2.ensures (then c.in_ok-put_link.ensures (then c.in_ok-put_text-2.ensures (then c.in_ok-put_text-3.ensures (then c.in_ok-put_time-2.ensures (one c.in_ok-end_object.ensures))))))))))
