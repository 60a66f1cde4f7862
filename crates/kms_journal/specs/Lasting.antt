-- That nothing is lost that was acknowledged.
use Rattle.std.specs.Prelude.{◌≡◌, ◌⊎◌, ℕ, List, Some, Result, Ok, Err, true}
use Rattle.kms_host.specs.Disk.{disk, files, IsImage}
use Rattle.kms_host.specs.History.{History}
use Rattle.kms_journal.specs.Checkpoint.{with_snapshot, IsOldOrNew, Checkpoints}
use Rattle.kms_journal.specs.Commit.{IsBeforeOrAfter, Commits}
use Rattle.kms_journal.specs.Device.{IsQuietStore}
use Rattle.kms_journal.specs.Pieces.{Snapshot}
use Rattle.kms_journal.specs.Position.{Position, IsPlaced, IsAtRest}
use Rattle.kms_journal.specs.Recovery.{KeepsStanding, Opens}
use Rattle.kms_journal.specs.Standing.{Standing, standing_of, with_framed}
use Rattle.kms_journal.specs.declared.fault.JournalFault.{JournalFault}
use Rattle.kms_journal.specs.declared.fault.JournalFault.TheVariants.{NoStore, StoreFault, Damaged, NoMemory}
use Rattle.kms_journal.specs.declared.fault.StoreFault.{StoreFault as Failure}

-- Opening answers a journal of a store that stands for this, or a fault that says nothing of the files.
abbrev pub FindsAgain : Standing → Result Position JournalFault → History → Type 0
FindsAgain s (Ok journal) now = IsPlaced journal now s
FindsAgain s (Err NoStore) now = ⊥
FindsAgain s (Err (Damaged place chain)) now = ⊥
FindsAgain s (Err StoreFault) now = Unit {0}
FindsAgain s (Err NoMemory) now = Unit {0}

-- Each crash image that a stop may leave after a commit that was acknowledged opens as the store with the record more. The
-- stop comes at any moment up to the next call that writes, cuts or syncs, whatever was called beside that.
abbrev pub IsAcknowledgedFound : Type 0
IsAcknowledgedFound = (old new : Position) (framed : List ℕ) (s : Standing) (was now stop : History) (image : List ℕ × List ℕ) (result : Result Position JournalFault) (start end : History)
    → IsQuietStore was → Commits {T = Unit {0}} {E = Failure} old new framed (Ok tt) s was now
    → ((f : ℕ) → disk f stop ≡ disk f now) → IsImage stop image
    → files start ≡ image → Opens result start end → FindsAgain (with_framed s framed) result end

-- A stop in the midst of the next commit leaves it too, with the next record or without that. The next commit begins at any
-- moment up to the next call that writes, cuts or syncs, whatever was called beside that.
abbrev pub IsKeptByTheNext : Type 0
IsKeptByTheNext = (old new : Position) (framed next : List ℕ) (s : Standing) (was now later stop : History) (image : List ℕ × List ℕ) (result : Result Position JournalFault) (start end : History)
    → IsQuietStore was → Commits {T = Unit {0}} {E = Failure} old new framed (Ok tt) s was now
    → ((f : ℕ) → disk f later ≡ disk f now) → IsBeforeOrAfter (with_framed s framed) next later stop → IsImage stop image
    → files start ≡ image → Opens result start end
    → FindsAgain (with_framed s framed) result end ⊎ FindsAgain (with_framed (with_framed s framed) next) result end

-- Each crash image that a stop in the midst of opening may leave opens as what the files stood for.
abbrev pub IsOpeningStopped : Type 0
IsOpeningStopped = (s : Standing) (was stop : History) (image : List ℕ × List ℕ) (result : Result Position JournalFault) (start end : History)
    → IsQuietStore was → standing_of (files was) ≡ Some s → s.is_whole ≡ true → KeepsStanding was stop → IsImage stop image
    → files start ≡ image → Opens result start end → FindsAgain s result end

-- Each crash image that a stop may leave after a checkpoint that was acknowledged opens as the snapshot with no records. The
-- stop comes at any moment up to the next call that writes, cuts or syncs, whatever was called beside that.
abbrev pub IsCheckpointFound : Type 0
IsCheckpointFound = (new : Position) (snapshot : Snapshot) (s : Standing) (was now stop : History) (image : List ℕ × List ℕ) (result : Result Position JournalFault) (start end : History)
    → IsQuietStore was → Checkpoints {T = Unit {0}} {E = Failure} new snapshot (Ok tt) s was now
    → ((f : ℕ) → disk f stop ≡ disk f now) → IsImage stop image
    → files start ≡ image → Opens result start end → FindsAgain (with_snapshot s snapshot) result end

-- Each crash image that a stop in the midst of a checkpoint may leave opens as what the store stood for before, with all its
-- records, or as the snapshot with none.
abbrev pub IsCheckpointStopped : Type 0
IsCheckpointStopped = (p : Position) (snapshot : Snapshot) (s : Standing) (was stop : History) (image : List ℕ × List ℕ) (result : Result Position JournalFault) (start end : History)
    → IsAtRest p was s → IsOldOrNew s snapshot was stop → IsImage stop image
    → files start ≡ image → Opens result start end
    → FindsAgain s result end ⊎ FindsAgain (with_snapshot s snapshot) result end
