-- What a host in memory keeps of its calls.
use Rattle.std.specs.Prelude.{◌≡◌, ◌≤◌, ℕ, List, ◌∷◌, Option, Some, None, Result, IsOkAnd, Bool, is_some, is_none, ◌&&◌, ◌||◌, if◌then◌else◌, option_map, reverse}
use Rattle.kms_host.specs.History.{History}
use Rattle.kms_host.specs.Line.{sent, opened}
use Rattle.kms_host.specs.Memory.{next, sent_on}
use Rattle.kms_host.specs.Disk.{Disk, disk, after_call}
use Rattle.kms_host.specs.declared.call.Call.{Call}
use Rattle.kms_host.specs.declared.call.Call.TheVariants.{OnFile}
use Rattle.kms_host.specs.declared.call.FileCall.{FileCall}

-- The calls so far, the newest first, as long as there was memory for them, and how many calls were out of memory.
pub record Recording : Type 0 where
  pub calls : Option (List Call)
  pub wanted : ℕ

-- calls that were kept the oldest first
abbrev pub told_calls : Bool → List Call → Option (List Call)
told_calls tells calls = if tells then Some (reverse calls) else None

-- One call more. Where there is no memory for it, nothing is told from then on. The call is counted as out of memory
-- where it was so before it was recorded, or where what was told until now is told no more.
pub record Notes {E : Type 0} (call : Result Call E) (starved : Bool) (old new : Recording) : Type 0 where
  pub told : (calls : List Call) → new.calls ≡ Some calls → (was : List Call) × (old.calls ≡ Some was) × IsOkAnd call (λ c. calls ≡ c ∷ was)
  pub count : new.wanted ≡ (if starved || (is_some old.calls && is_none new.calls) then next old.wanted else old.wanted)
  pub later : old.wanted ≤ new.wanted

-- A call on a file, noted with what it did to that file, where P holds. Where there is no memory for it, nothing is told
-- from then on.
pub record NotesOn (file : ℕ) (old new : Recording) (was now : Disk) (P : Type 0) (C : FileCall → Type 0) : Type 0 where
  pub told : (calls : List Call) → new.calls ≡ Some calls
      → (before : List Call) × (old.calls ≡ Some before) × (P → (c : FileCall) × (calls ≡ OnFile file c ∷ before) × (now ≡ after_call was c) × C c)

-- The count of calls that were out of memory never falls, and where what was told until now is told no more it rose.
pub record Counts (old new : Recording) : Type 0 where
  pub later : old.wanted ≤ new.wanted
  pub lost : (was : List Call) → old.calls ≡ Some was → new.calls ≡ None → new.wanted ≡ next old.wanted

-- the history of a host with these files at first and these key files
abbrev pub history_of : List ℕ × List ℕ → List (List ℕ × List ℕ) → Option (List Call) → Option History
history_of opening key_files calls = option_map (λ calls. record { opening = opening; key_files = key_files; calls = calls }) calls

-- what was sent, how many lines were opened, and how the files are, is what the calls say
pub record Agrees (outputs : List (ℕ × List ℕ)) (lines : ℕ) (file_0 file_1 : Disk) (h : History) : Type 0 where
  pub sent_is : (line : ℕ) → sent_on line outputs ≡ sent line h.calls
  pub opened_is : opened h.calls ≡ lines
  pub file_0_is : disk 0 h ≡ file_0
  pub file_1_is : disk 1 h ≡ file_1
