use Rattle.std.proofs.Common.{map}
use Rattle.kms_json.specs.Container.{member_data}
use Rattle.kms_json.proofs.TokenLaws.{bracketed, one}
use Rattle.kms_json.proofs.container.write_members.Goals as goal

pub returns : goal.returns
returns c = bracketed (map (member_data c.args.endpoint.now) c.args.members.now) (one c.in_ok-begin_array.ensures) c.in_ok-put_members.ensures (one c.in_ok-end_array.ensures)
