-- What a commit does to a store, at each moment.
use Rattle.std.specs.Prelude.{◌≡◌, ◌≢◌, ◌⊎◌, ℕ, ◌+◌, ◌-◌, ◌≤◌, List, [], ◌∷◌, ◌++◌, length, slice_index, Some, None, Result, OnOk, true}
use Rattle.std.specs.Int.{w32, to_be_bytes}
use Rattle.kms_host.specs.Disk.{disk, IsImage}
use Rattle.kms_host.specs.History.{History}
use Rattle.kms_host.specs.Moment.{Throughout, then_calls}
use Rattle.kms_host.specs.Store.{others, syncs}
use Rattle.kms_host.specs.declared.call.Call.{Call}
use Rattle.kms_host.specs.declared.call.Call.TheVariants.{OnFile}
use Rattle.kms_host.specs.declared.call.FileCall.TheVariants.{Wrote, Synced}
use Rattle.kms_journal.specs.Cuts.{cuts}
use Rattle.kms_journal.specs.Device.{IsQuiet, IsQuietStore}
use Rattle.kms_journal.specs.Position.{Position, IsPlaced}
use Rattle.kms_journal.specs.Standing.{Standing, standing_of, with_framed, record_len}

-- a framed record: its length in four bytes, its bytes, and a clear commit mark
pub record IsFramed (framed : List ℕ) : Type 0 where
  pub size : record_len (1 ∷ framed) + 5 ≡ length framed
  pub clear : slice_index framed (length framed - 1) ≡ 0

-- Each crash image stands for what the store stood for before, with this record more or without it. The file that isn't
-- current is as it was. Nothing was called but on files, and no file was cut.
pub record IsBeforeOrAfter (s : Standing) (framed : List ℕ) (was h : History) : Type 0 where
  pub images : IsQuietStore was → (image : List ℕ × List ℕ) → IsImage h image
      → (standing_of image ≡ Some s) ⊎ (standing_of image ≡ Some (with_framed s framed))
  pub other : (f : ℕ) → s.file ≢ f → disk f h ≡ disk f was
  pub others : others h ≡ others was
  pub syncs : syncs h.calls ≤ syncs was.calls + 2
  pub cuts : cuts h.calls ≡ cuts was.calls

-- The calls of a commit that was done, the newest first: the framed record is written after the last commit mark and
-- synced, and only then that commit mark is set by a write of its own and synced.
abbrev pub commit_calls : ℕ → ℕ → List ℕ → List Call
commit_calls file end framed =
    OnFile file (Synced true) ∷ OnFile file (Wrote end (1 ∷ []) None) ∷ OnFile file (Synced true) ∷ OnFile file (Wrote (end + 1) framed None) ∷ []

-- The store has this record more, or it stands for what it stood for before. From an Ok on it is the first, and nothing is
-- pending on the current file.
pub record Commits {T E : Type 0} (old new : Position) (framed : List ℕ) (result : Result T E) (s : Standing) (was now : History) : Type 0 where
  pub throughout : Throughout (IsBeforeOrAfter s framed was) was now
  pub placed : OnOk result (IsPlaced new now (with_framed s framed))
  pub quiet : OnOk result (IsQuietStore was → IsQuietStore now)
  pub rests : OnOk result (IsQuiet s.file now)
  pub calls : OnOk result (now ≡ then_calls was (commit_calls old.file old.end framed))

-- a record, framed
abbrev pub frame : List ℕ → List ℕ
frame item = to_be_bytes w32 (length item) ++ item ++ 0 ∷ []
