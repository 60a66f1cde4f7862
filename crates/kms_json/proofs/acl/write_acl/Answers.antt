use Rattle.kms_json.proofs.TokenLaws.{one, then}
use Rattle.kms_json.proofs.acl.write_acl.Goals as goal

pub returns : goal.returns
returns c = then (one c.in_ok-begin_object.ensures) (then (one c.in_ok-key.ensures) (then (one c.in_ok-begin_object-2.ensures) (then c.in_ok-put_members.ensures (one c.in_ok-end_object.ensures))))
