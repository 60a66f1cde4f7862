use Rattle.std.proofs.Common.{rules, not}
use Rattle.std.proofs.lemmas.List.Sorted.{IsPartitionPoint-from_clause}
use Rattle.kms_record.specs.declared.key.WrappedKey.{WrappedKey}
use Rattle.kms_kept.specs.Kept.{is_key_below}
use Rattle.kms_store.proofs.KeysLaws.{parted_after, place_inserts}
use Rattle.kms_store.proofs.keys.key_place.Goals as goal

pub returns-clause-place : goal.returns-clause-place
returns-clause-place c =
    let keys = c.args.keys.now in
    let key = c.args.key.now in
    let parts = IsPartitionPoint-from_clause (λ (other : WrappedKey). not (is_key_below key other)) _ _ c.partition_point.ensures.partitioned (parted_after key keys c.requires) (λ a r q k. search rules) in
    place_inserts key keys c.partition_point.result parts c.partition_point.ensures.bound
