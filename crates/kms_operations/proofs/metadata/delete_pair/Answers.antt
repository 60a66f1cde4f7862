use Rattle.std.proofs.Common.{ap}
use Rattle.kms_world.specs.declared.secret.SecretRow.{SecretRow}
use Rattle.kms_operations.proofs.FitLaws.{count_is, metadata_fits}
use Rattle.kms_operations.proofs.PairLaws.{fewer_fits}
use Rattle.kms_operations.proofs.metadata.delete_pair.Goals as goal

pub returns-clause-possible : goal.returns-clause-possible
returns-clause-possible c =
    let kept = c.in_ok-secret.ensures.kept in
    let range = fewer_fits c.in_ok-pair.pair.now.0 c.in_ok-secret.secret.now.metadata c.row-2.result.now.metadata c.in_ok-pairs.pairs kept.is.metadata.0.pairs (ap (λ (r : SecretRow). r.metadata) c.row-2.ensures) c.in_ok-pairs.ensures in
    record { times = tt; change = metadata_fits _ _ _ _ _ kept (count_is _ _ _ c.row-3.ensures c.count_of.ensures.count) c.requires.time range }
