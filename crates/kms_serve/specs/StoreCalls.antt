-- What the calls of a run say of the store, beside what its files hold.
use Rattle.std.specs.Prelude.{◌≡◌, List, [], ◌∷◌, drop, Bool, true, false, ◌||◌, Result, Ok, Err}
use Rattle.kms_host.specs.Store.{store_call_failed}
use Rattle.kms_host.specs.declared.call.Call.{Call}
use Rattle.kms_host.specs.declared.call.NameFault.{NameFault}
use Rattle.kms_host.specs.declared.call.NameFault.TheVariants as names
use Rattle.kms_host.specs.declared.call.Call.TheVariants.{Text, Listened, Came, Attached, Took, Gave, Shut, OnFile, Told, Drew}

-- a call of the store failed
abbrev pub store_failed : List Call → Bool
store_failed [] = false
store_failed (c ∷ calls) = store_call_failed c || store_failed calls

-- a key file couldn't be read
abbrev pub key_file_failed : List Call → Bool
key_file_failed [] = false
key_file_failed (Text name room (Ok bytes) ∷ calls) = key_file_failed calls
key_file_failed (Text name room (Err names.Failed) ∷ calls) = true
key_file_failed (Text name room (Err names.NoMemory) ∷ calls) = key_file_failed calls
key_file_failed (Listened address done ∷ calls) = key_file_failed calls
key_file_failed (Came line ∷ calls) = key_file_failed calls
key_file_failed (Attached name done ∷ calls) = key_file_failed calls
key_file_failed (Took line room bytes ∷ calls) = key_file_failed calls
key_file_failed (Gave line piece went ∷ calls) = key_file_failed calls
key_file_failed (Shut line ∷ calls) = key_file_failed calls
key_file_failed (OnFile file c ∷ calls) = key_file_failed calls
key_file_failed (Told t ∷ calls) = key_file_failed calls
key_file_failed (Drew purpose bytes ∷ calls) = key_file_failed calls

-- No call of the store failed before the newest call.
abbrev pub IsUnfailedBefore : List Call → Type 0
IsUnfailedBefore calls = store_failed (drop 1 calls) ≡ false

-- nothing but calls on files
abbrev pub OnlyFiles : List Call → Type 0
OnlyFiles [] = Unit {0}
OnlyFiles (Text name room bytes ∷ calls) = ⊥
OnlyFiles (Listened address done ∷ calls) = ⊥
OnlyFiles (Came line ∷ calls) = ⊥
OnlyFiles (Attached name done ∷ calls) = ⊥
OnlyFiles (Took line room bytes ∷ calls) = ⊥
OnlyFiles (Gave line piece went ∷ calls) = ⊥
OnlyFiles (Shut line ∷ calls) = ⊥
OnlyFiles (OnFile file c ∷ calls) = OnlyFiles calls
OnlyFiles (Told t ∷ calls) = ⊥
OnlyFiles (Drew purpose bytes ∷ calls) = ⊥

-- files are called only where the store could be attached
abbrev pub IfAttached : Result (Unit {0}) NameFault → (on_files : List Call) → Type 0
IfAttached (Ok done) on_files = Unit {0}
IfAttached (Err fault) on_files = on_files ≡ []
