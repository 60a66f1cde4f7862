-- What a checkpoint does to a store, at each moment: its snapshot is written to the file that isn't current, which then is.
use Rattle.std.specs.Prelude.{◌≡◌, ◌⊎◌, ℕ, ◌+◌, ◌-◌, ◌*◌, ◌≤◌, length, List, [], Some, None, true, false, Result, OnOk}
use Rattle.kms_host.specs.Disk.{disk, IsImage}
use Rattle.kms_host.specs.History.{History}
use Rattle.kms_host.specs.Moment.{Throughout}
use Rattle.kms_host.specs.Store.{others, syncs}
use Rattle.kms_journal.specs.Cuts.{cuts}
use Rattle.kms_journal.specs.Device.{IsQuiet, IsQuietStore}
use Rattle.kms_journal.specs.Pieces.{Snapshot}
use Rattle.kms_journal.specs.Position.{Position, IsPlaced}
use Rattle.kms_journal.specs.Standing.{Standing, standing_of}

-- file 1 of file 0, and file 0 of file 1
abbrev pub other_file : ℕ → ℕ
other_file file = 1 - file

-- The next generation, in the other file: the snapshot and no records. The tag is the same.
abbrev pub with_snapshot : Standing → Snapshot → Standing
with_snapshot s snapshot = record {
  file = other_file s.file;
  generation = s.generation + 1;
  tag = s.tag;
  ids = snapshot.ids;
  steps = snapshot.steps;
  snapshot = snapshot.bytes;
  records = [];
  stop = 50 + length snapshot.bytes;
  is_whole = true;
}

-- the position there
abbrev pub moved_to : Position → Snapshot → Position
moved_to p snapshot = record {
  file = other_file p.file;
  generation = p.generation + 1;
  tag = p.tag;
  ids = snapshot.ids;
  steps = snapshot.steps;
  start = 50 + length snapshot.bytes;
  end = 50 + length snapshot.bytes;
  failed = false;
  chain = None;
}

-- Each crash image stands for what the store stood for before, or, once the other file was cut, for the snapshot with no
-- records. The file that was current is as it was. Nothing was called but on files. There was one cut at most, and three syncs
-- for that at most.
pub record IsOldOrNew (s : Standing) (snapshot : Snapshot) (was h : History) : Type 0 where
  pub images : IsQuietStore was → (image : List ℕ × List ℕ) → IsImage h image
      → (standing_of image ≡ Some s) ⊎ ((standing_of image ≡ Some (with_snapshot s snapshot)) × (cuts h.calls ≡ cuts was.calls + 1))
  pub old : disk s.file h ≡ disk s.file was
  pub others : others h ≡ others was
  pub later : cuts was.calls ≤ cuts h.calls
  pub once : cuts h.calls ≤ cuts was.calls + 1
  pub syncs : syncs h.calls + 3 * cuts was.calls ≤ syncs was.calls + 3 * cuts h.calls

-- The store stands for the snapshot with no records, or for what it stood for before. From an Ok on it is the first, there
-- was one cut, and nothing is pending on the file that is current then.
pub record Checkpoints {T E : Type 0} (new : Position) (snapshot : Snapshot) (result : Result T E) (s : Standing) (was now : History) : Type 0 where
  pub throughout : Throughout (IsOldOrNew s snapshot was) was now
  pub placed : OnOk result (IsPlaced new now (with_snapshot s snapshot))
  pub quiet : OnOk result (IsQuietStore was → IsQuietStore now)
  pub rests : OnOk result (IsQuiet (other_file s.file) now)
  pub cut : OnOk result (cuts now.calls ≡ cuts was.calls + 1)
