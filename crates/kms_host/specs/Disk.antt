-- The disk: how each file of the store reads, and what a stop may leave of it (its crash images).
use Rattle.std.specs.Prelude.{◌≡◌, ◌⊎◌, ℕ, zero, suc, ◌+◌, ◌≤◌, ◌<◌, min, max, List, [], ◌∷◌, ◌++◌, length, take, drop, ◌==◌, if◌then◌else◌, slice_index, Option, Some, None, unwrap_or, Result, Ok, Err}
use Rattle.kms_host.specs.History.{History}
use Rattle.kms_host.specs.declared.call.Call.{Call}
use Rattle.kms_host.specs.declared.call.Call.TheVariants.{Text, Listened, Came, Attached, Took, Gave, Shut, OnFile, Told, Drew}
use Rattle.kms_host.specs.declared.call.FileCall.{FileCall}
use Rattle.kms_host.specs.declared.call.FileCall.TheVariants.{Measured, Read, Wrote, CutTo, Synced}

-- What is known of one file. All but the first is since the last sync that succeeded: the bytes at that sync, the
-- ranges written since as start and end, and the shortest and the longest that the file may have been since.
pub record Disk : Type 0 where
  pub reads : List ℕ
  pub base : List ℕ
  pub ranges : List (ℕ × ℕ)
  pub shortest : ℕ
  pub longest : ℕ

-- a file with nothing pending
abbrev pub at_rest : List ℕ → Disk
at_rest bytes = record { reads = bytes; base = bytes; ranges = []; shortest = length bytes; longest = length bytes }

-- the bytes with a piece written over them at a place
abbrev pub put : List ℕ → ℕ → List ℕ → List ℕ
put bytes at piece = take at bytes ++ piece ++ drop (at + length piece) bytes

-- A write begun, which left the file reading so. On the way the file has each length up to the write's end.
abbrev pub after_write : Disk → ℕ → List ℕ → List ℕ → Disk
after_write d at piece reads = record {
  reads = reads;
  base = d.base;
  ranges = (at, at + length piece) ∷ d.ranges;
  shortest = d.shortest;
  longest = max d.longest (at + length piece);
}

-- A cut begun, which left the file reading so. On the way the file has each length down to the cut's.
abbrev pub after_cut : Disk → ℕ → List ℕ → Disk
after_cut d size reads = record { reads = reads; base = d.base; ranges = d.ranges; shortest = min d.shortest size; longest = d.longest }

-- The file after one call on it. A write or a cut that failed counts as begun, and a sync that failed does nothing.
abbrev pub after_call : Disk → FileCall → Disk
after_call d (Measured size) = d
after_call d (Read at room bytes) = d
after_call d (Wrote at piece left) = after_write d at piece (unwrap_or left (put d.reads at piece))
after_call d (CutTo size left) = after_cut d size (unwrap_or left (take size d.reads))
after_call d (Synced done) = if done then at_rest d.reads else d

-- the file after these calls, the newest first
abbrev pub disk_after : ℕ → List ℕ → List Call → Disk
disk_after file opening [] = at_rest opening
disk_after file opening (Text name room bytes ∷ calls) = disk_after file opening calls
disk_after file opening (Listened address done ∷ calls) = disk_after file opening calls
disk_after file opening (Came line ∷ calls) = disk_after file opening calls
disk_after file opening (Attached name done ∷ calls) = disk_after file opening calls
disk_after file opening (Took l room bytes ∷ calls) = disk_after file opening calls
disk_after file opening (Gave l piece went ∷ calls) = disk_after file opening calls
disk_after file opening (Shut l ∷ calls) = disk_after file opening calls
disk_after file opening (OnFile f c ∷ calls) = if f == file then after_call (disk_after file opening calls) c else disk_after file opening calls
disk_after file opening (Told t ∷ calls) = disk_after file opening calls
disk_after file opening (Drew purpose bytes ∷ calls) = disk_after file opening calls

-- file 0 or file 1 of two
abbrev pub of_file : ℕ → List ℕ × List ℕ → List ℕ
of_file zero files = files.0
of_file (suc n) files = files.1

abbrev pub disk : ℕ → History → Disk
disk file h = disk_after file (of_file file h.opening) h.calls

-- the file as it reads
abbrev pub reads : ℕ → History → List ℕ
reads file h = (disk file h).reads

-- both files as they read
abbrev pub files : History → List ℕ × List ℕ
files h = (reads 0 h, reads 1 h)

-- the place is in none of the ranges
abbrev pub IsOutside : ℕ → List (ℕ × ℕ) → Type 0
IsOutside k [] = Unit {0}
IsOutside k (range ∷ ranges) = ((k < range.0) ⊎ (range.1 ≤ k)) × IsOutside k ranges

-- A stop may leave this of the file. Its length is one that the file had since the last sync, or one on the way of a
-- write or a cut. What was there at that sync and was not written over since stays. All else may hold any bytes.
pub record MayLeave (d : Disk) (image : List ℕ) : Type 0 where
  pub no_shorter : d.shortest ≤ length image
  pub no_longer : length image ≤ d.longest
  pub stays : (k : ℕ) → k < length image → k < length d.base → IsOutside k d.ranges → slice_index image k ≡ slice_index d.base k

-- A stop may leave these two files: a crash image.
pub record IsImage (h : History) (image : List ℕ × List ℕ) : Type 0 where
  pub file_0 : MayLeave (disk 0 h) image.0
  pub file_1 : MayLeave (disk 1 h) image.1

-- What a call on a file that answered so left of it: what it is to do, or where it failed any part of that.
abbrev pub Left : {T E : Type 0} → Result T E → Option (List ℕ) → Disk → Type 0
Left (Ok x) left d = left ≡ None
Left (Err e) left d = (after : List ℕ) × (left ≡ Some after) × MayLeave d after

-- after a write of n bytes that was cut short: any bytes in the range and past the old end, the same elsewhere
pub record Torn (at n : ℕ) (old new : List ℕ) : Type 0 where
  pub before : take at new ≡ take at old
  pub after : drop (at + n) new ≡ drop (at + n) old
  pub no_shorter : length old ≤ length new
  pub no_longer : length new ≤ max (length old) (at + n)

-- after a cut that was cut short: some length between
pub record Cut (size : ℕ) (old new : List ℕ) : Type 0 where
  pub no_shorter : size ≤ length new
  pub front : new ≡ take (length new) old
