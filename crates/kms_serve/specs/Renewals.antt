-- How often a run put a snapshot in the place of its store's records.
use Rattle.std.specs.Prelude.{◌≡◌, ℕ, ◌+◌, ◌≤◌, List, [], ◌∷◌, Bool, true, false, Some, if◌then◌else◌}
use Rattle.kms_host.specs.Disk.{files, IsImage}
use Rattle.kms_host.specs.declared.call.Call.{Call}
use Rattle.kms_host.specs.declared.call.Call.TheVariants.{Text, Listened, Came, Attached, Took, Gave, Shut, OnFile, Told, Drew}
use Rattle.kms_host.specs.declared.call.FileCall.TheVariants.{Measured, Read, Wrote, CutTo, Synced}
use Rattle.kms_journal.specs.Device.{IsQuietStore}
use Rattle.kms_journal.specs.Standing.{Standing, standing_of}
use Rattle.kms_serve.specs.RunStart.{RunStart, history}

-- a time was told
abbrev pub is_asked : List Call → Bool
is_asked [] = false
is_asked (Text name room bytes ∷ calls) = is_asked calls
is_asked (Listened address done ∷ calls) = is_asked calls
is_asked (Came line ∷ calls) = is_asked calls
is_asked (Attached name done ∷ calls) = is_asked calls
is_asked (Took l room bytes ∷ calls) = is_asked calls
is_asked (Gave l piece went ∷ calls) = is_asked calls
is_asked (Shut l ∷ calls) = is_asked calls
is_asked (OnFile file c ∷ calls) = is_asked calls
is_asked (Told t ∷ calls) = true
is_asked (Drew purpose bytes ∷ calls) = is_asked calls

-- How many cuts of files came after the first time was told: a snapshot cuts its file once, and a record none.
abbrev pub renewals : List Call → ℕ
renewals [] = 0
renewals (Text name room bytes ∷ calls) = renewals calls
renewals (Listened address done ∷ calls) = renewals calls
renewals (Came line ∷ calls) = renewals calls
renewals (Attached name done ∷ calls) = renewals calls
renewals (Took l room bytes ∷ calls) = renewals calls
renewals (Gave l piece went ∷ calls) = renewals calls
renewals (Shut l ∷ calls) = renewals calls
renewals (OnFile file (Measured size) ∷ calls) = renewals calls
renewals (OnFile file (Read at room bytes) ∷ calls) = renewals calls
renewals (OnFile file (Wrote at piece left) ∷ calls) = renewals calls
renewals (OnFile file (CutTo size left) ∷ calls) = if is_asked calls then renewals calls + 1 else renewals calls
renewals (OnFile file (Synced done) ∷ calls) = renewals calls
renewals (Told t ∷ calls) = renewals calls
renewals (Drew purpose bytes ∷ calls) = renewals calls

-- In each crash image the store's generation is above what it was when the run began by the renewals, if nothing was pending
-- then. The newest of these may be one whose generation isn't there yet.
pub record IsRenewed (start : RunStart) (calls : List Call) : Type 0 where
  pub images : IsQuietStore start.was → (image : List ℕ × List ℕ) → IsImage (history start calls) image
      → (s t : Standing) → standing_of (files start.was) ≡ Some s → standing_of image ≡ Some t
      → (t.generation ≤ s.generation + renewals calls) × (s.generation + renewals calls ≤ t.generation + 1)

-- and the generation of the files as they read is above it by all of them
abbrev pub AllRenewed : RunStart → List Call → Type 0
AllRenewed start calls = IsQuietStore start.was → (s t : Standing) → standing_of (files start.was) ≡ Some s → standing_of (files (history start calls)) ≡ Some t
    → t.generation ≡ s.generation + renewals calls
