-- What creating a store does to its files, at each moment.
use Rattle.std.specs.Prelude.{◌≡◌, ◌≢◌, ◌⊎◌, ℕ, ◌+◌, ◌≤◌, List, [], ◌∷◌, Some, None, Result, Ok, Err, true}
use Rattle.kms_host.specs.Disk.{disk, reads, files, IsImage}
use Rattle.kms_host.specs.History.{History}
use Rattle.kms_host.specs.Moment.{Throughout}
use Rattle.kms_host.specs.Store.{others, syncs}
use Rattle.kms_journal.specs.Device.{IsQuiet, IsQuietStore, IsUntouched}
use Rattle.kms_journal.specs.Spelling.{file_rest}
use Rattle.kms_journal.specs.Position.{position_of, IsPlaced}
use Rattle.kms_journal.specs.Standing.{Standing, standing_of}
use Rattle.kms_journal.specs.declared.fault.CreateFault.{CreateFault}
use Rattle.kms_journal.specs.declared.fault.CreateFault.TheVariants.{Exists, StoreFault, NoMemory}
use Rattle.kms_journal.specs.declared.header.Header.{Header}

-- the snapshot of an empty key manager: no changes, as a number of 8 bytes
abbrev pub no_changes : List ℕ
no_changes = 0 ∷ 0 ∷ 0 ∷ 0 ∷ 0 ∷ 0 ∷ 0 ∷ 0 ∷ []

-- what a fresh store stands for
abbrev pub fresh : ℕ → Standing
fresh tag = record { file = 0; generation = 1; tag = tag; ids = 0; steps = 0; snapshot = no_changes; records = []; stop = 58; is_whole = true }

abbrev pub fresh_header : ℕ → Header
fresh_header tag = record { file = 0; generation = 1; tag = tag; ids = 0; steps = 0; snapshot = 8 }

-- the bytes after the first commit mark of a fresh file 0
abbrev pub fresh_rest : ℕ → List ℕ
fresh_rest tag = file_rest (fresh_header tag) no_changes

-- Each crash image stands for what the files stood for before, or for the fresh store where there was none. A store that is
-- there already is only read, and file 1 always.
pub record IsNoneOrFresh (tag : ℕ) (was h : History) : Type 0 where
  pub images : IsQuietStore was → (image : List ℕ × List ℕ) → IsImage h image
      → (standing_of image ≡ standing_of (files was)) ⊎ ((standing_of (files was) ≡ None) × (standing_of image ≡ Some (fresh tag)))
  pub store : (s : Standing) → standing_of (files was) ≡ Some s → IsUntouched was h
  pub other : (f : ℕ) → 0 ≢ f → disk f h ≡ disk f was
  pub others : others h ≡ others was
  pub syncs : syncs h.calls ≤ syncs was.calls + 3

-- What each answer says. There is a fresh store where there was none, with nothing pending on its file, and one that is there
-- is left as it was.
abbrev pub IsCreation : ℕ → Result (Unit {0}) CreateFault → History → History → Type 0
IsCreation tag (Ok done) was now = (standing_of (files was) ≡ None) × IsPlaced (position_of (fresh tag)) now (fresh tag)
    × (reads 0 now ≡ 1 ∷ fresh_rest tag) × (IsQuietStore was → IsQuietStore now) × IsQuiet 0 now
IsCreation tag (Err Exists) was now = (s : Standing) × (standing_of (files was) ≡ Some s) × IsUntouched was now
IsCreation tag (Err StoreFault) was now = Unit {0}
IsCreation tag (Err NoMemory) was now = ⊥

pub record Creates (tag : ℕ) (result : Result (Unit {0}) CreateFault) (was now : History) : Type 0 where
  pub throughout : Throughout (IsNoneOrFresh tag was) was now
  pub answer : IsCreation tag result was now
