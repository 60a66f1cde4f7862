use Rattle.kms_json.proofs.TokenLaws.{one, then}
use Rattle.kms_json.proofs.acl.put_none.Goals as goal

pub returns : goal.returns
returns c = then c.in_ok-put_bool.ensures (one c.in_ok-end_object.ensures)
