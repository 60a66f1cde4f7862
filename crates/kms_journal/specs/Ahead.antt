-- Bytes of a file that are read ahead of their use.
use Rattle.std.specs.Prelude.{◌≡◌, ℕ, ◌≤◌, min, List, length, take, drop, Result, OnOk}
use Rattle.kms_host.specs.Disk.{reads}
use Rattle.kms_host.specs.History.{History}
use Rattle.kms_host.specs.Moment.{Throughout}
use Rattle.kms_journal.specs.Device.{IsUntouched}

-- these are the next bytes of the file from a place on
pub record IsAhead (file place : ℕ) (held : List ℕ) (h : History) : Type 0 where
  pub same : held ≡ take (length held) (drop place (reads file h))

-- The file is read at most. Where the bytes from the place on were held, they are held afterwards, as many as are needed or
-- all that the file has.
pub record Fills {T E : Type 0} (file place needed : ℕ) (old new : List ℕ) (result : Result T E) (was now : History) : Type 0 where
  pub throughout : Throughout (IsUntouched was) was now
  pub ahead : OnOk result (IsAhead file place old was → IsAhead file place new was)
  pub enough : OnOk result (IsAhead file place old was → min needed (length (drop place (reads file was))) ≤ length new)
