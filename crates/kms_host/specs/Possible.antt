-- Calls on files that a disk may answer so.
use Rattle.std.specs.Prelude.{ℕ, ◌≤◌, List, [], ◌∷◌, length, MatchOption}
use Rattle.kms_host.specs.History.{History}
use Rattle.kms_host.specs.Disk.{disk, reads, after_write, after_cut, MayLeave}
use Rattle.kms_host.specs.declared.call.Call.{Call}
use Rattle.kms_host.specs.declared.call.Call.TheVariants.{Text, Listened, Came, Attached, Took, Gave, Shut, OnFile, Told, Drew}
use Rattle.kms_host.specs.declared.call.FileCall.{FileCall}
use Rattle.kms_host.specs.declared.call.FileCall.TheVariants.{Measured, Read, Wrote, CutTo, Synced}

-- a write or a cut lies within the file, and one that failed left one of the images that it may leave
abbrev pub IsAllowedOn : ℕ → History → FileCall → Type 0
IsAllowedOn file h (Measured size) = Unit {0}
IsAllowedOn file h (Read at room bytes) = Unit {0}
IsAllowedOn file h (Wrote at piece left) = (at ≤ length (reads file h)) × MatchOption left (Unit {0}) (MayLeave (after_write (disk file h) at piece (reads file h)))
IsAllowedOn file h (CutTo size left) = (size ≤ length (reads file h)) × MatchOption left (Unit {0}) (MayLeave (after_cut (disk file h) size (reads file h)))
IsAllowedOn file h (Synced done) = Unit {0}

abbrev pub IsAllowed : History → Call → Type 0
IsAllowed h (Text name room bytes) = Unit {0}
IsAllowed h (Listened address done) = Unit {0}
IsAllowed h (Came line) = Unit {0}
IsAllowed h (Attached name done) = Unit {0}
IsAllowed h (Took l room bytes) = Unit {0}
IsAllowed h (Gave l piece went) = Unit {0}
IsAllowed h (Shut l) = Unit {0}
IsAllowed h (OnFile file c) = IsAllowedOn file h c
IsAllowed h (Told t) = Unit {0}
IsAllowed h (Drew purpose bytes) = Unit {0}

-- so is each of these calls, the newest first
abbrev pub AreAllowed : List ℕ × List ℕ → List (List ℕ × List ℕ) → List Call → Type 0
AreAllowed opening key_files [] = Unit {0}
AreAllowed opening key_files (c ∷ calls) = IsAllowed (record { opening = opening; key_files = key_files; calls = calls }) c × AreAllowed opening key_files calls

-- whatever was called, each file as it reads is one of its crash images
abbrev pub ReadsAnImage : Type 0
ReadsAnImage = (opening : List ℕ × List ℕ) (key_files : List (List ℕ × List ℕ)) (calls : List Call) (file : ℕ) → AreAllowed opening key_files calls
    → let h : History = record { opening = opening; key_files = key_files; calls = calls } in MayLeave (disk file h) (reads file h)
