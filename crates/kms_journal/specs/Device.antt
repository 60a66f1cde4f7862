-- What a few calls on the files do, at each moment.
use Rattle.std.specs.Prelude.{◌≡◌, ◌≢◌, ℕ, ◌+◌, ◌<◌, ◌≤◌, List, [], ◌∷◌, length, take, None, Result, OnOk, IsErrOf, true}
use Rattle.kms_host.specs.Disk.{disk, reads, at_rest, put, MayLeave, Torn, Cut}
use Rattle.kms_host.specs.Faults.{Faults, NeverFalls, Rose}
use Rattle.kms_host.specs.History.{History}
use Rattle.kms_host.specs.Moment.{Throughout, then_calls}
use Rattle.kms_host.specs.Store.{IsAttached, others, syncs}
use Rattle.kms_host.specs.declared.call.Call.TheVariants.{OnFile}
use Rattle.kms_host.specs.declared.call.FileCall.TheVariants.{Wrote, Synced}
use Rattle.kms_journal.specs.Cuts.{cuts}

-- nothing is pending on the file
abbrev pub IsQuiet : ℕ → History → Type 0
IsQuiet file h = disk file h ≡ at_rest (reads file h)

-- nothing is pending on either file
abbrev pub IsQuietStore : History → Type 0
IsQuietStore h = (f : ℕ) → f < 2 → IsQuiet f h

-- Both files are as before, and what is pending. Nothing was called but what reads a file.
pub record IsUntouched (was h : History) : Type 0 where
  pub disk : (f : ℕ) → disk f h ≡ disk f was
  pub others : others h ≡ others was
  pub syncs : syncs h.calls ≡ syncs was.calls
  pub cuts : cuts h.calls ≡ cuts was.calls

-- a place within the file
pub record HasPlace (file at : ℕ) (h : History) : Type 0 where
  pub attached : IsAttached h
  pub within : at ≤ length (reads file h)

-- While n bytes are written at a place of a file and synced. Of crash images it says something where nothing was
-- pending on the file.
pub record IsWriting (file at n : ℕ) (was h : History) : Type 0 where
  pub torn : IsQuiet file was → (image : List ℕ) → MayLeave (disk file h) image → Torn at n (reads file was) image
  pub other : (f : ℕ) → file ≢ f → disk f h ≡ disk f was
  pub others : others h ≡ others was
  pub syncs : syncs h.calls ≤ syncs was.calls + 1
  pub cuts : cuts h.calls ≡ cuts was.calls

-- the piece is written, and synced where the answer is Ok
pub record WritesThrough {T E : Type 0} (file at : ℕ) (piece : List ℕ) (result : Result T E) (was now : History) : Type 0 where
  pub throughout : Throughout (IsWriting file at (length piece) was) was now
  pub done : OnOk result (disk file now ≡ at_rest (put (reads file was) at piece))
  pub calls : OnOk result (now ≡ then_calls was (OnFile file (Synced true) ∷ OnFile file (Wrote at piece None) ∷ []))

-- while a file is cut to a length and synced
pub record IsCutting (file size : ℕ) (was h : History) : Type 0 where
  pub cut : IsQuiet file was → (image : List ℕ) → MayLeave (disk file h) image → Cut size (reads file was) image
  pub other : (f : ℕ) → file ≢ f → disk f h ≡ disk f was
  pub others : others h ≡ others was
  pub syncs : syncs h.calls ≤ syncs was.calls + 1

pub record CutsThrough {T E : Type 0} (file size : ℕ) (result : Result T E) (was now : History) : Type 0 where
  pub throughout : Throughout (IsCutting file size was) was now
  pub done : OnOk result (disk file now ≡ at_rest (take size (reads file was)))

-- no count falls, and this fault is answered only where the store's count rose
pub record HasStoreCause {T E : Type 0} (fault : E) (before now : Faults) (result : Result T E) : Type 0 where
  pub later : NeverFalls before now
  pub failed : IsErrOf result fault → Rose before.store now.store
