use Rattle.kms_kept.proofs.SpelledLaws.{rows_spelled, secret_spelled, rows_counted}
use Rattle.kms_kept.proofs.laws.a_snapshot_is_spelled_by_its_rows.Goals as goal

pub returns-clause-rows : goal.returns-clause-rows
returns-clause-rows c = rows_spelled

pub returns-clause-secret : goal.returns-clause-secret
returns-clause-secret c = secret_spelled

pub returns-clause-count : goal.returns-clause-count
returns-clause-count c = rows_counted
