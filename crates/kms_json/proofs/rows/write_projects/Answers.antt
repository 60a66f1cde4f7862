use Rattle.std.proofs.Common.{map}
use Rattle.kms_json.specs.Quota.{project_data}
use Rattle.kms_json.proofs.TokenLaws.{bracketed, one}
use Rattle.kms_json.proofs.rows.write_projects.Goals as goal

pub returns : goal.returns
returns c = bracketed (map project_data c.args.rows.now) (one c.in_ok-begin_array.ensures) c.in_ok-put_projects.ensures (one c.in_ok-end_array.ensures)
