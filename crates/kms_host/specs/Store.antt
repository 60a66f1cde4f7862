-- What the calls mean for the store, beside what its files hold.
use Rattle.std.specs.Prelude.{◌≡◌, ℕ, ◌+◌, List, [], ◌∷◌, Bool, true, false, Ok, Err, is_none, is_some, not, if◌then◌else◌}
use Rattle.kms_host.specs.History.{History}
use Rattle.kms_host.specs.declared.call.Call.{Call}
use Rattle.kms_host.specs.declared.call.Call.TheVariants.{Text, Listened, Came, Attached, Took, Gave, Shut, OnFile, Told, Drew}
use Rattle.kms_host.specs.declared.call.FileCall.{FileCall}
use Rattle.kms_host.specs.declared.call.FileCall.TheVariants.{Measured, Read, Wrote, CutTo, Synced}
use Rattle.kms_host.specs.declared.call.NameFault.TheVariants.{Failed, NoMemory}

-- the calls that are not on a file, the newest first
abbrev pub apart_from_files : List Call → List Call
apart_from_files [] = []
apart_from_files (Text name room bytes ∷ calls) = Text name room bytes ∷ apart_from_files calls
apart_from_files (Listened address done ∷ calls) = Listened address done ∷ apart_from_files calls
apart_from_files (Came line ∷ calls) = Came line ∷ apart_from_files calls
apart_from_files (Attached name done ∷ calls) = Attached name done ∷ apart_from_files calls
apart_from_files (Took l room bytes ∷ calls) = Took l room bytes ∷ apart_from_files calls
apart_from_files (Gave l piece went ∷ calls) = Gave l piece went ∷ apart_from_files calls
apart_from_files (Shut l ∷ calls) = Shut l ∷ apart_from_files calls
apart_from_files (OnFile file c ∷ calls) = apart_from_files calls
apart_from_files (Told t ∷ calls) = Told t ∷ apart_from_files calls
apart_from_files (Drew purpose bytes ∷ calls) = Drew purpose bytes ∷ apart_from_files calls

abbrev pub others : History → List Call
others h = apart_from_files h.calls

-- the files of the store were opened
abbrev pub is_attached : List Call → Bool
is_attached [] = false
is_attached (Text name room bytes ∷ calls) = is_attached calls
is_attached (Listened address done ∷ calls) = is_attached calls
is_attached (Came line ∷ calls) = is_attached calls
is_attached (Attached name (Ok done) ∷ calls) = true
is_attached (Attached name (Err fault) ∷ calls) = is_attached calls
is_attached (Took l room bytes ∷ calls) = is_attached calls
is_attached (Gave l piece went ∷ calls) = is_attached calls
is_attached (Shut l ∷ calls) = is_attached calls
is_attached (OnFile file c ∷ calls) = is_attached calls
is_attached (Told t ∷ calls) = is_attached calls
is_attached (Drew purpose bytes ∷ calls) = is_attached calls

-- no other store was attached than the one of this name
abbrev pub OnlyAttached : List ℕ → List Call → Type 0
OnlyAttached store [] = Unit {0}
OnlyAttached store (Text name room bytes ∷ calls) = OnlyAttached store calls
OnlyAttached store (Listened address done ∷ calls) = OnlyAttached store calls
OnlyAttached store (Came line ∷ calls) = OnlyAttached store calls
OnlyAttached store (Attached name (Ok done) ∷ calls) = (name ≡ store) × OnlyAttached store calls
OnlyAttached store (Attached name (Err fault) ∷ calls) = OnlyAttached store calls
OnlyAttached store (Took l room bytes ∷ calls) = OnlyAttached store calls
OnlyAttached store (Gave l piece went ∷ calls) = OnlyAttached store calls
OnlyAttached store (Shut l ∷ calls) = OnlyAttached store calls
OnlyAttached store (OnFile file c ∷ calls) = OnlyAttached store calls
OnlyAttached store (Told t ∷ calls) = OnlyAttached store calls
OnlyAttached store (Drew purpose bytes ∷ calls) = OnlyAttached store calls

pub record IsAttached (h : History) : Type 0 where
  pub done : is_attached h.calls ≡ true

-- how many syncs there were, done or failed
abbrev pub syncs : List Call → ℕ
syncs [] = 0
syncs (Text name room bytes ∷ calls) = syncs calls
syncs (Listened address done ∷ calls) = syncs calls
syncs (Came line ∷ calls) = syncs calls
syncs (Attached name done ∷ calls) = syncs calls
syncs (Took l room bytes ∷ calls) = syncs calls
syncs (Gave l piece went ∷ calls) = syncs calls
syncs (Shut l ∷ calls) = syncs calls
syncs (OnFile file (Measured size) ∷ calls) = syncs calls
syncs (OnFile file (Read at room bytes) ∷ calls) = syncs calls
syncs (OnFile file (Wrote at piece left) ∷ calls) = syncs calls
syncs (OnFile file (CutTo size left) ∷ calls) = syncs calls
syncs (OnFile file (Synced done) ∷ calls) = syncs calls + 1
syncs (Told t ∷ calls) = syncs calls
syncs (Drew purpose bytes ∷ calls) = syncs calls

-- a call on a file failed
abbrev pub file_call_failed : FileCall → Bool
file_call_failed (Measured size) = is_none size
file_call_failed (Read at room bytes) = is_none bytes
file_call_failed (Wrote at piece left) = is_some left
file_call_failed (CutTo size left) = is_some left
file_call_failed (Synced done) = not done

-- The call is one of the store, and the outside failed in it. Being out of memory is no such fault.
abbrev pub store_call_failed : Call → Bool
store_call_failed (Text name room bytes) = false
store_call_failed (Listened address done) = false
store_call_failed (Came line) = false
store_call_failed (Attached name (Ok done)) = false
store_call_failed (Attached name (Err Failed)) = true
store_call_failed (Attached name (Err NoMemory)) = false
store_call_failed (Took l room bytes) = false
store_call_failed (Gave l piece went) = false
store_call_failed (Shut l) = false
store_call_failed (OnFile file c) = file_call_failed c
store_call_failed (Told t) = false
store_call_failed (Drew purpose bytes) = false

-- how many calls of the store failed so
abbrev pub failed_store_calls : List Call → ℕ
failed_store_calls [] = 0
failed_store_calls (c ∷ calls) = if store_call_failed c then failed_store_calls calls + 1 else failed_store_calls calls
