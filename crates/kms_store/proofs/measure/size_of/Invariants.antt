use Rattle.std.proofs.Common.{◌≡◌, ◌+◌, ◌≤◌, length}
use Rattle.std.specs.List.{flat_map, AllByRecursion}
use Rattle.kms_record.specs.Grammar.{IsChange, change_bytes, snapshot_bytes}
use Rattle.kms_kept.specs.Snapshot.{snapshot_of}
use Rattle.kms_store.specs.RowsLeft.{changes_left}
use Rattle.kms_store.proofs.measure.size_of.Given as goal

abbrev pub invariant-loop-change : goal.invariant-loop-change
invariant-loop-change l = record {
  changes : l.changes + length (changes_left l.rows) ≡ length (snapshot_of l.tables.kept);
  bytes : l.bytes + length (flat_map change_bytes (changes_left l.rows)) ≡ length (snapshot_bytes (snapshot_of l.tables.kept));
  fewer : l.changes + 8 ≤ l.bytes;
  each : AllByRecursion IsChange (changes_left l.rows);
}

abbrev pub decreases-loop-change : goal.decreases-loop-change
decreases-loop-change l = length (changes_left l.rows)
