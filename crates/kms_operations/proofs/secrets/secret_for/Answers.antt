use Rattle.kms_operations.specs.Found.{IsKeptSecret}
use Rattle.kms_operations.proofs.FoundLaws.{for_found}
use Rattle.kms_operations.proofs.secrets.secret_for.Goals as goal

pub returns-clause-kept : goal.returns-clause-kept
returns-clause-kept c = for_found (IsKeptSecret c.args.rows.now.kept) c.args.found c.in-Some.secret c.in-Some.is c.requires
