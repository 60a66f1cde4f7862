use Rattle.kms_json.proofs.TokenLaws.{one, then}
use Rattle.kms_json.proofs.acl.put_list.Goals as goal

pub returns : goal.returns
returns c = rw c.as_slice.ensures.names at (then c.in_ok-put_time.ensures (then c.in_ok-put_bool.ensures (then c.in_ok-put_time-2.ensures (then (one c.in_ok-key.ensures) (then c.in_ok-write_users.ensures (one c.in_ok-end_object.ensures))))))
