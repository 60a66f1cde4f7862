-- A store's snapshot that is given piece by piece.
use Rattle.std.specs.Prelude.{◌≡◌, ◌<◌, ◌≤◌, ◌^◌, ℕ, List, length, Option, Some, None}
use Rattle.kms_kept.specs.Kept.{Kept}
use Rattle.kms_kept.specs.Snapshot.{snapshot_of}
use Rattle.kms_record.specs.Grammar.{snapshot_bytes}
use Rattle.kms_journal.specs.Pieces.{Snapshot}
use Rattle.kms_store.specs.declared.measure.Size.{Size}

-- the snapshot of what is kept, which stands for so many steps
abbrev pub snapshot_after : (steps : ℕ) → Kept → Snapshot
snapshot_after steps kept = record { ids = kept.state.ids; steps = steps; bytes = snapshot_bytes (snapshot_of kept) }

-- so many changes, and so many bytes, each less than 2^64; None where the bytes are 2^64 or more
abbrev pub IsSizeOf : Option Size → Kept → Type 0
IsSizeOf None kept = 2 ^ 64 ≤ length (snapshot_bytes (snapshot_of kept))
IsSizeOf (Some size) kept = (size.changes ≡ length (snapshot_of kept)) × (size.bytes ≡ length (snapshot_bytes (snapshot_of kept))) × (length (snapshot_of kept) < 2 ^ 64)

-- the whole snapshot, and what of its bytes is still to be given
pub record Walked : Type 0 where
  pub snapshot : Snapshot
  pub left : List ℕ
