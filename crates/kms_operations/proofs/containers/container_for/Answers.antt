use Rattle.kms_operations.specs.Found.{IsKeptContainer}
use Rattle.kms_operations.proofs.FoundLaws.{for_found}
use Rattle.kms_operations.proofs.containers.container_for.Goals as goal

pub returns-clause-kept : goal.returns-clause-kept
returns-clause-kept c = for_found (IsKeptContainer c.args.rows.now.kept) c.args.found c.in-Some.container c.in-Some.is c.requires
