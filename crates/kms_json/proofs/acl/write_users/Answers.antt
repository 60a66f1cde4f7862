use Rattle.std.proofs.Common.{map}
use Rattle.serde_json.specs.Data.{string}
use Rattle.kms_json.proofs.TokenLaws.{bracketed, one}
use Rattle.kms_json.proofs.acl.write_users.Goals as goal

pub returns : goal.returns
returns c = bracketed (map string c.args.users.now) (one c.in_ok-begin_array.ensures) c.in_ok-put_users.ensures (one c.in_ok-end_array.ensures)
