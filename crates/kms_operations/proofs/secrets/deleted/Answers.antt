use Rattle.kms_operations.proofs.FitLaws.{count_is, deletion_fits}
use Rattle.kms_operations.proofs.secrets.deleted.Goals as goal

pub returns-clause-possible : goal.returns-clause-possible
returns-clause-possible c = record {
  times = tt;
  change = deletion_fits _ _ _ c.in_ok-secret.ensures.kept (count_is _ _ _ c.row.ensures c.count_of.ensures.count);
}
