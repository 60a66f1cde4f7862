-- When a snapshot takes the place of the records.
use Rattle.std.specs.Prelude.{◌≡◌, ℕ, ◌-◌, ◌^◌, ◌<◌}
use Rattle.kms_kept.specs.Kept.{Kept}
use Rattle.kms_journal.specs.Position.{Position}
use Rattle.kms_store.specs.Snapshot.{Walked, snapshot_after}
use Rattle.kms_store.specs.Stands.{IsSnapshotOf}

-- The records take more bytes than this, and this is the whole snapshot, of which nothing is given yet.
pub record IsDue (limit : ℕ) (kept : Kept) (steps : ℕ) (journal : Position) (walk : Walked) : Type 0 where
  pub whole : walk ≡ record { snapshot = snapshot_after steps kept; left = (snapshot_after steps kept).bytes }
  pub above : limit < journal.end - journal.start
  pub generation : journal.generation < 2 ^ 63
  pub unspent : steps < 2 ^ 63
  pub leads : IsSnapshotOf kept.state.tag kept.state.ids (snapshot_after steps kept).bytes kept
