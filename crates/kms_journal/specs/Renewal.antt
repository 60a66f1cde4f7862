-- What writing a file of a store anew does to it, at each moment.
use Rattle.std.specs.Prelude.{◌≡◌, ◌≢◌, ◌⊎◌, ℕ, ◌+◌, ◌*◌, ◌≤◌, length, List, ◌∷◌, ◌++◌, Result, OnOk}
use Rattle.kms_host.specs.Disk.{disk, reads, at_rest, MayLeave, IsOutside}
use Rattle.kms_host.specs.History.{History}
use Rattle.kms_host.specs.Moment.{Throughout}
use Rattle.kms_host.specs.Store.{IsAttached, others, syncs}
use Rattle.kms_journal.specs.Cuts.{cuts}
use Rattle.kms_journal.specs.Device.{IsQuiet}
use Rattle.kms_journal.specs.Emptying.{IsNoNewer}

-- this place is the file's end
pub record IsEnd (file at : ℕ) (h : History) : Type 0 where
  pub attached : IsAttached h
  pub size : length (reads file h) ≡ at

-- While a file grows after its first byte. Nothing is synced, so that what a stop may leave begins as it did.
pub record IsGrowing (file : ℕ) (was h : History) : Type 0 where
  pub base : (disk file h).base ≡ (disk file was).base
  pub outside : IsOutside 0 (disk file was).ranges → IsOutside 0 (disk file h).ranges
  pub shortest : (disk file h).shortest ≡ (disk file was).shortest
  pub other : (f : ℕ) → file ≢ f → disk f h ≡ disk f was
  pub others : others h ≡ others was
  pub syncs : syncs h.calls ≡ syncs was.calls
  pub cuts : cuts h.calls ≡ cuts was.calls

pub record Appends {T E : Type 0} (file : ℕ) (piece : List ℕ) (result : Result T E) (was now : History) : Type 0 where
  pub throughout : Throughout (IsGrowing file was) was now
  pub done : OnOk result (reads file now ≡ reads file was ++ piece)

-- While a file is written anew, as a commit mark that is set and these bytes after it. If nothing was pending on it, each
-- crash image of it is the new file, which is only once it was cut, or it stands for nothing, or for something of the
-- generation that it had. It is cut once, and that comes before its three syncs.
pub record IsRenewing (file : ℕ) (rest : List ℕ) (was h : History) : Type 0 where
  pub images : IsQuiet file was → (image : List ℕ) → MayLeave (disk file h) image → IsNoNewer file (reads file was) image ⊎ ((image ≡ 1 ∷ rest) × (cuts h.calls ≡ cuts was.calls + 1))
  pub other : (f : ℕ) → file ≢ f → disk f h ≡ disk f was
  pub others : others h ≡ others was
  pub later : cuts was.calls ≤ cuts h.calls
  pub once : cuts h.calls ≤ cuts was.calls + 1
  pub syncs : syncs h.calls + 3 * cuts was.calls ≤ syncs was.calls + 3 * cuts h.calls

pub record Renews {T E : Type 0} (file : ℕ) (rest : List ℕ) (result : Result T E) (was now : History) : Type 0 where
  pub throughout : Throughout (IsRenewing file rest was) was now
  pub done : OnOk result (disk file now ≡ at_rest (1 ∷ rest))
  pub cut : OnOk result (cuts now.calls ≡ cuts was.calls + 1)
