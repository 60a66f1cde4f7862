-- One file of a store in memory.
use Rattle.std.specs.Prelude.{◌≡◌, ℕ, ◌≤◌, ◌<◌, ◌^◌, List, length, slice_index, Bool, ◌&&◌, ◌||◌, nat_lt, nat_le, if◌then◌else◌, Result, Ok, Err}
use Rattle.std.specs.List.{list_all}
use Rattle.kms_host.specs.Disk.{Disk, MayLeave, put, after_write}
use Rattle.kms_host.specs.declared.bytes.NoMemory.{NoMemory}
use Rattle.kms_host.specs.declared.call.Pick.{Pick}
use Rattle.kms_host.specs.declared.call.Pick.TheVariants.{Kept, Lost, Torn}
use Rattle.kms_host.specs.declared.memory.file.Written.{Written}
use Rattle.kms_host.specs.declared.memory.file.Written.TheVariants.{Done, Refused, Starved}
use Rattle.kms_host.specs.declared.memory.file.File.TheInside.{Inside}

abbrev pub disk_of : Inside → Disk
disk_of f = record {
  reads = f.reads.items;
  base = f.base.items;
  ranges = f.ranges.items;
  shortest = f.shortest;
  longest = f.longest;
}

-- The file as it reads, and the file as it was at the last sync, are among its images.
pub record IsSound (d : Disk) : Type 0 where
  pub kept : MayLeave d d.reads
  pub not_shorter : d.shortest ≤ length d.base
  pub not_longer : length d.base ≤ d.longest
  pub short : length d.reads < 2 ^ 62

-- How a write of a piece at a place came out, and the file after it.
abbrev pub HasWritten : ℕ → List ℕ → Result Written NoMemory → Disk → Disk → Type 0
HasWritten at piece (Ok Done) old new = new ≡ after_write old at piece (put old.reads at piece)
HasWritten at piece (Ok Refused) old new = new ≡ after_write old at piece old.reads
HasWritten at piece (Ok Starved) old new = new ≡ after_write old at piece old.reads
HasWritten at piece (Err none) old new = new ≡ old

-- the place is in none of the ranges
abbrev pub is_outside : ℕ → List (ℕ × ℕ) → Bool
is_outside k ranges = list_all (λ range. nat_lt k range.0 || nat_le range.1 k) ranges

-- this value, unless the byte stands as it was at the last sync
abbrev pub torn_byte : ℕ → Disk → ℕ → ℕ
torn_byte value d k = if nat_lt k (length d.base) && is_outside k d.ranges then slice_index d.base k else value

-- The image that is picked of a file: as it reads, as it was at the last sync, or of the greatest length that it may have
-- had since and with one value in each place that was written since or lies after the end at that sync.
abbrev pub IsPicked : Pick → Disk → List ℕ → Type 0
IsPicked Kept d image = image ≡ d.reads
IsPicked Lost d image = image ≡ d.base
IsPicked (Torn value) d image = (length image ≡ d.longest) × ((k : ℕ) → k < length image → slice_index image k ≡ torn_byte value d k)
