use Rattle.kms_secret.proofs.RangeLaws.{metadata_in_range}
use Rattle.kms_operations.proofs.FitLaws.{count_is, metadata_fits}
use Rattle.kms_operations.proofs.PairLaws.{pairs_record}
use Rattle.kms_operations.proofs.metadata.put.Goals as goal

pub returns-clause-possible : goal.returns-clause-possible
returns-clause-possible c = record {
  times = tt;
  change = metadata_fits _ _ _ _ _ c.in_ok-secret.ensures.kept (count_is _ _ _ c.row.ensures c.count_of.ensures.count) c.requires.time
      (pairs_record c.in_ok-pairs.pairs (metadata_in_range c.in_ok-body.body c.in_ok-pairs.pairs c.in_ok-pairs.ensures));
}
