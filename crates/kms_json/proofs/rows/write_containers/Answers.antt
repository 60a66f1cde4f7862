use Rattle.std.proofs.Common.{map}
use Rattle.kms_json.specs.Container.{container_data}
use Rattle.kms_json.proofs.TokenLaws.{bracketed, one}
use Rattle.kms_json.proofs.rows.write_containers.Goals as goal

pub returns : goal.returns
returns c = bracketed (map (container_data c.args.endpoint.now) c.args.rows.now) (one c.in_ok-begin_array.ensures) c.in_ok-put_containers.ensures (one c.in_ok-end_array.ensures)
