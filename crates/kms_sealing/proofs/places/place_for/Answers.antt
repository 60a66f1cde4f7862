use Rattle.std.proofs.Common.{rules}
use Rattle.std.specs.Prelude.{not}
use Rattle.std.proofs.lemmas.List.Sorted.{IsPartitionPoint-from_clause}
use Rattle.kms_record.specs.declared.key.WrappedKey.{WrappedKey}
use Rattle.kms_kept.specs.Kept.{is_key_below}
use Rattle.kms_store.proofs.KeysLaws.{parted_after, place_inserts}
use Rattle.kms_sealing.specs.Sealed.{wrapped_row}
use Rattle.kms_sealing.proofs.places.place_for.Goals as goal

pub returns-clause-place : goal.returns-clause-place
returns-clause-place c =
    let rows = c.args.rows.now in
    let key = wrapped_row c.args.new.now in
    let parts = IsPartitionPoint-from_clause (λ (other : WrappedKey). not (is_key_below key other)) _ _ c.partition_point.ensures.partitioned (parted_after key rows c.requires) (λ a r q k. search rules) in
    place_inserts key rows c.partition_point.result parts c.partition_point.ensures.bound
