use Rattle.std.proofs.Common.{rules}
use Rattle.std.specs.Prelude.{not}
use Rattle.std.proofs.lemmas.List.Sorted.{IsPartitionPoint-from_clause}
use Rattle.kms_world.specs.Pairs.{is_below}
use Rattle.kms_record.specs.declared.key.WrappedKey.{WrappedKey}
use Rattle.kms_sealing.proofs.LatestLaws.{end_parted}
use Rattle.kms_sealing.proofs.places.end_point.Goals as goal

pub returns-clause-parted : goal.returns-clause-parted
returns-clause-parted c =
    IsPartitionPoint-from_clause (λ (row : WrappedKey). not (is_below c.args.project.now row.project)) _ _ c.partition_point.ensures.partitioned (end_parted c.args.project.now c.args.rows.now c.requires) (λ a r q k. search rules)
