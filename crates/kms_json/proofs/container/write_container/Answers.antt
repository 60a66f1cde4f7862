use Rattle.kms_json.proofs.TokenLaws.{one, then}
use Rattle.kms_json.proofs.container.write_container.Goals as goal

pub returns : goal.returns
returns c = rw (c.as_slice.ensures, c.as_str.ensures, c.as_slice-2.ensures, c.word.ensures) at (then (one c.in_ok-begin_object.ensures) (then (one c.in_ok-key.ensures) (then c.in_ok-write_consumers.ensures (then c.in_ok-put_link.ensures (then c.in_ok-put_time.ensures (then c.in_ok-put_text.ensures (then c.in_ok-put_optional_text.ensures (then (one c.in_ok-key-2.ensures) (then c.in_ok-write_members.ensures (then c.in_ok-put_text-2.ensures (then c.in_ok-put_text-3.ensures (then c.in_ok-put_time-2.ensures (one c.in_ok-end_object.ensures)))))))))))))
