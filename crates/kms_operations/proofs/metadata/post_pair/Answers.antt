use Rattle.std.proofs.Common.{ap, ◌∙◌}
use Rattle.kms_secret.proofs.RangeLaws.{one_pair_in_range}
use Rattle.kms_world.specs.declared.secret.SecretRow.{SecretRow}
use Rattle.kms_operations.proofs.FitLaws.{count_is, metadata_fits}
use Rattle.kms_operations.proofs.PairLaws.{new_fits}
use Rattle.kms_operations.proofs.metadata.post_pair.Goals as goal

pub returns-clause-possible : goal.returns-clause-possible
returns-clause-possible c =
    let kept = c.in_ok-secret.ensures.kept in
    let range = new_fits c.in_ok-pair.pair c.in_ok-secret.secret.now.metadata c.as_slice.result.now c.row-2.result.now.metadata c.in_ok-pairs.pairs c.in_ok-may_add.field-0
    kept.is.metadata.0.pairs (one_pair_in_range c.in_ok-body.body c.in_ok-pair.pair c.in_ok-pair.ensures)
    (c.as_slice.ensures.pairs ∙ ap (λ (r : SecretRow). r.metadata) c.row.ensures) (ap (λ (r : SecretRow). r.metadata) c.row-2.ensures) c.in_ok-may_add.ensures c.in_ok-pairs.ensures in
    record { times = tt; change = metadata_fits _ _ _ _ _ kept (count_is _ _ _ c.row-3.ensures c.count_of.ensures.count) c.requires.time range }
