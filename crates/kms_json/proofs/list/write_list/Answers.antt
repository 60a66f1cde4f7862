use Rattle.kms_json.proofs.TokenLaws.{one, then}
use Rattle.kms_json.proofs.list.write_list.Goals as goal

pub returns : goal.returns
returns c = then (one c.in_ok-begin_object.ensures) c.in_ok-put_members.ensures
