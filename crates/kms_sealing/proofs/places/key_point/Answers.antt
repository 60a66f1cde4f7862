use Rattle.std.proofs.Common.{rules}
use Rattle.std.proofs.lemmas.List.Sorted.{IsPartitionPoint-from_clause}
use Rattle.kms_record.specs.declared.key.WrappedKey.{WrappedKey}
use Rattle.kms_kept.specs.Kept.{is_key_below}
use Rattle.kms_store.specs.Keys.{named_key}
use Rattle.kms_store.proofs.KeysLaws.{parted}
use Rattle.kms_sealing.proofs.places.key_point.Goals as goal

pub returns-clause-parted : goal.returns-clause-parted
returns-clause-parted c =
    IsPartitionPoint-from_clause (λ (row : WrappedKey). is_key_below row (named_key c.args.project.now c.args.number)) _ _ c.partition_point.ensures.partitioned (parted c.args.project.now c.args.number c.args.rows.now c.requires) (λ a r q k. search rules)
