-- What emptying a file of a store does to it, at each moment.
use Rattle.std.specs.Prelude.{◌≡◌, ◌≢◌, ◌⊎◌, ℕ, ◌+◌, ◌<◌, ◌≤◌, length, slice_index, List, [], ◌∷◌, Some, Result, OnOk}
use Rattle.kms_host.specs.Disk.{disk, reads, at_rest, put, after_write, MayLeave}
use Rattle.kms_host.specs.History.{History}
use Rattle.kms_host.specs.Moment.{Throughout}
use Rattle.kms_host.specs.Store.{others, syncs}
use Rattle.kms_journal.specs.Cuts.{cuts}
use Rattle.kms_journal.specs.Device.{IsQuiet}
use Rattle.kms_journal.specs.Standing.{Standing, standing}

-- The second bytes stand for nothing, or for something of the generation that the first stand for. So where the other file
-- was current, it still is.
abbrev pub IsNoNewer : ℕ → List ℕ → List ℕ → Type 0
IsNoNewer file old new = (y : Standing) → standing file new ≡ Some y → (x : Standing) × (standing file old ≡ Some x) × (y.generation ≡ x.generation)

-- While a file is made one clear commit mark. If nothing was pending on it, each crash image of it stands for nothing, or
-- for something of the generation that it had. It is cut once, and synced only then.
pub record IsEmptying (file : ℕ) (was h : History) : Type 0 where
  pub no_newer : IsQuiet file was → (image : List ℕ) → MayLeave (disk file h) image → IsNoNewer file (reads file was) image
  pub other : (f : ℕ) → file ≢ f → disk f h ≡ disk f was
  pub others : others h ≡ others was
  pub later : cuts was.calls ≤ cuts h.calls
  pub once : cuts h.calls ≤ cuts was.calls + 1
  pub syncs : syncs h.calls + cuts was.calls ≤ syncs was.calls + cuts h.calls

-- Either the first byte is there and isn't 1, and nothing was called; or a 0 is being written over it, where it is 1 or there
-- is none.
abbrev pub IsFirstClear : ℕ → History → History → Type 0
IsFirstClear file was now = ((disk file now ≡ disk file was) × (0 < length (reads file was)) × (slice_index (reads file was) 0 ≢ 1))
    ⊎ ((disk file now ≡ after_write (disk file was) 0 (0 ∷ []) (put (reads file was) 0 (0 ∷ []))) × ((length (reads file was) ≡ 0) ⊎ (slice_index (reads file was) 0 ≡ 1)))

pub record ClearsFirst {T E : Type 0} (file : ℕ) (result : Result T E) (was now : History) : Type 0 where
  pub throughout : Throughout (IsEmptying file was) was now
  pub syncs : syncs now.calls ≡ syncs was.calls
  pub cuts : cuts now.calls ≡ cuts was.calls
  pub done : OnOk result (IsFirstClear file was now)

pub record Empties {T E : Type 0} (file : ℕ) (result : Result T E) (was now : History) : Type 0 where
  pub throughout : Throughout (IsEmptying file was) was now
  pub done : OnOk result ((first : ℕ) × (first ≢ 1) × (disk file now ≡ at_rest (first ∷ [])))
  pub cut : OnOk result (cuts now.calls ≡ cuts was.calls + 1)
