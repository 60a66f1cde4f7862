-- Where a snapshot's walk stands.
use Rattle.std.specs.Prelude.{◌≡◌, ◌≤◌, ◌++◌, drop, length}
use Rattle.kms_store.specs.Snapshot.{Walked, snapshot_after}
use Rattle.kms_store.specs.declared.snapshot.SnapshotWalk.TheInside.{Inside}

abbrev pub walked : Inside → Walked
walked w = record { snapshot = snapshot_after w.steps w.tables.now.kept; left = drop w.given w.head ++ w.changes }

pub record IsWalk (w : Inside) : Type 0 where
  pub given : w.given ≤ 8
  pub size : w.bytes ≡ length (snapshot_after w.steps w.tables.now.kept).bytes
