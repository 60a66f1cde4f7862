-- What is read of the current file.
use Rattle.std.specs.Prelude.{◌≡◌, ℕ, ◌+◌, ◌<◌, ◌^◌, List, length, take, Bool, ◌&&◌, nat_lt, nat_le, if◌then◌else◌, Option, Some, None, Result, IfOk, true}
use Rattle.kms_host.specs.Disk.{of_file}
use Rattle.kms_host.specs.History.{History}
use Rattle.kms_host.specs.Moment.{Throughout}
use Rattle.kms_journal.specs.Device.{IsUntouched}
use Rattle.kms_journal.specs.Header.{number_in, is_header}
use Rattle.kms_journal.specs.Standing.{standing, standing_of}
use Rattle.kms_journal.specs.declared.header.Current.{Current}
use Rattle.kms_journal.specs.declared.header.Header.{Header}

-- the header that these 50 bytes tell
abbrev pub header_of : ℕ → List ℕ → Header
header_of file head = record {
  file = file;
  generation = number_in 10 head;
  tag = number_in 18 head;
  ids = number_in 26 head;
  steps = number_in 34 head;
  snapshot = number_in 42 head;
}

-- what is found tells of these bytes, and they are no less than a whole header
pub record IsTold (c : Current) (bytes : List ℕ) : Type 0 where
  pub whole : is_header (take 50 bytes) ≡ true
  pub long : 50 < length bytes
  pub header : c.header ≡ header_of c.header.file (take 50 bytes)
  pub size : c.size ≡ length bytes

-- what is found in a file of these bytes
abbrev pub IsHead : ℕ → List ℕ → Option Current → Type 0
IsHead file bytes None = standing file bytes ≡ None
IsHead file bytes (Some c) = (c.header.file ≡ file) × IsTold c bytes

-- what is found in both files
abbrev pub IsCurrentOf : List ℕ × List ℕ → Option Current → Type 0
IsCurrentOf files None = standing_of files ≡ None
IsCurrentOf files (Some c) = (standing_of files ≡ standing c.header.file (of_file c.header.file files)) × IsTold c (of_file c.header.file files)

-- of a host that tells nothing too
pub record IsSized (c : Current) : Type 0 where
  pub file : c.header.file < 2
  pub long : 50 < c.size
  pub most : c.size < 2 ^ 62

-- the one of the greater generation, and the first where they are equal
abbrev pub newer_current : Option Current → Option Current → Option Current
newer_current None b = b
newer_current (Some a) None = Some a
newer_current (Some a) (Some b) = if nat_lt a.header.generation b.header.generation then Some b else Some a

-- the files are read and stay as they are, and this holds of what is found
pub record Finds {T E : Type 0} (P : T → Type 0) (result : Result T E) (was now : History) : Type 0 where
  pub throughout : Throughout (IsUntouched was) was now
  pub found : IfOk result P

-- its numbers are in range, and the snapshot and the commit mark after it lie in the file
abbrev pub is_current_based : Current → Bool
is_current_based c = nat_lt c.header.tag (2 ^ 60) && nat_le c.header.ids (2 ^ 62) && nat_lt (50 + c.header.snapshot) c.size
