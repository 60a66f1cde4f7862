use Rattle.std.proofs.Common.{map}
use Rattle.kms_json.specs.Container.{consumer_data}
use Rattle.kms_json.proofs.TokenLaws.{bracketed, one}
use Rattle.kms_json.proofs.container.write_consumers.Goals as goal

pub returns : goal.returns
returns c = bracketed (map consumer_data c.args.rows.now) (one c.in_ok-begin_array.ensures) c.in_ok-put_consumers.ensures (one c.in_ok-end_array.ensures)
