-- What opening the store of a run did.
use Rattle.std.specs.Prelude.{◌≡◌, ◌≢◌, ◌⊎◌, ℕ, ◌+◌, ◌≤◌, List, [], ◌∷◌, ◌++◌, take, true, false, Some, None, Result, Ok, Err}
use Rattle.kms_host.specs.Disk.{disk, files, IsImage}
use Rattle.kms_host.specs.History.{History}
use Rattle.kms_host.specs.KeyFiles.{named}
use Rattle.kms_host.specs.Moment.{AtEach, then_calls}
use Rattle.kms_host.specs.Store.{syncs}
use Rattle.kms_host.specs.declared.call.Call.{Call}
use Rattle.kms_host.specs.declared.call.Call.TheVariants.{Attached, Text}
use Rattle.kms_host.specs.declared.call.NameFault.{NameFault}
use Rattle.kms_host.specs.declared.call.NameFault.TheVariants as names
use Rattle.kms_journal.specs.Device.{IsQuietStore}
use Rattle.kms_journal.specs.Standing.{Standing, standing_of}
use Rattle.kms_ring.specs.KeyFile.{IsBadLine}
use Rattle.kms_ring.specs.declared.bad_line.BadLine.{BadLine}
use Rattle.kms_sealing.specs.declared.fault.KeyFileFault.{KeyFileFault}
use Rattle.kms_sealing.specs.declared.fault.KeyFileFault.TheVariants as key_faults
use Rattle.kms_core.specs.Starting.{IsRefusal, IsStart}
use Rattle.kms_core.specs.Steps.{Held}
use Rattle.kms_core.specs.declared.start_fault.StartFault.{StartFault}
use Rattle.kms_core.specs.declared.start_fault.StartFault.TheVariants as start
use Rattle.kms_serve.specs.RunStart.{HasKeys}
use Rattle.kms_serve.specs.StoreCalls.{key_file_failed, store_failed, IsUnfailedBefore, OnlyFiles, IfAttached}
use Rattle.kms_serve.specs.declared.status.Status.{Status}
use Rattle.kms_serve.specs.declared.status.Status.TheVariants as status

-- the key file of this name is good, and with its master keys this holds
pub record WithKeys (key_file : List ℕ) (was : History) (P : (masters : List (List ℕ)) → Type 0) : Type 0 where
  pub masters : List (List ℕ)
  pub keys : HasKeys was key_file masters
  pub is : P masters

-- Its first 1,024 bytes were read, and this is their first bad line.
pub record HasBadLine (key_file : List ℕ) (bad : BadLine) (was : History) (calls : List Call) : Type 0 where
  pub file : List ℕ
  pub there : named key_file was.key_files ≡ Some file
  pub read : calls ≡ Text key_file 1024 (Ok (take 1024 file)) ∷ []
  pub is_bad : IsBadLine (take 1024 file) bad

-- Why a store isn't served: the key file couldn't be read, or has a bad line, and then nothing else was called; or there is no
-- store, or it is damaged, at this place first, or doesn't open; or a call of the store failed; or the run was out of memory.
abbrev pub IsRefused : (key_file : List ℕ) → Status → History → List Call → Type 0
IsRefused key_file status.KeyFileFault was calls = calls ≡ Text key_file 1024 (Err names.Failed) ∷ []
IsRefused key_file (status.BadKeyFile bad) was calls = HasBadLine key_file bad was calls
IsRefused key_file status.NoStore was calls = WithKeys key_file was (λ masters. standing_of (files was) ≡ None) × (store_failed calls ≡ false)
IsRefused key_file (status.Damaged place) was calls = WithKeys key_file was (λ masters. IsRefusal masters (start.Damaged place) was) × (store_failed calls ≡ false)
IsRefused key_file (status.UnknownMaster project) was calls = WithKeys key_file was (λ masters. IsRefusal masters (start.UnknownMaster project) was) × (store_failed calls ≡ false)
IsRefused key_file (status.DamagedPayload secret) was calls = WithKeys key_file was (λ masters. IsRefusal masters (start.DamagedPayload secret) was) × (store_failed calls ≡ false)
IsRefused key_file status.StoreFault was calls = WithKeys key_file was (λ masters. Unit {0}) × (store_failed calls ≡ true)
IsRefused key_file status.NoMemory was calls = (store_failed calls ≡ false) × (key_file_failed calls ≡ false)
IsRefused key_file status.Done was calls = ⊥
IsRefused key_file status.Words was calls = ⊥
IsRefused key_file status.StoreExists was calls = ⊥
IsRefused key_file status.LinkFault was calls = ⊥
IsRefused key_file status.DrawFault was calls = ⊥
IsRefused key_file (status.Rest place) was calls = ⊥
IsRefused key_file (status.Unreadable place) was calls = ⊥

-- The same of the store alone, under these master keys.
abbrev pub IsRefusedUnder : (masters : List (List ℕ)) → Status → History → List Call → Type 0
IsRefusedUnder masters status.NoStore was calls = IsRefusal masters start.NoStore was × (store_failed calls ≡ false)
IsRefusedUnder masters (status.Damaged place) was calls = IsRefusal masters (start.Damaged place) was × (store_failed calls ≡ false)
IsRefusedUnder masters (status.UnknownMaster project) was calls = IsRefusal masters (start.UnknownMaster project) was × (store_failed calls ≡ false)
IsRefusedUnder masters (status.DamagedPayload secret) was calls = IsRefusal masters (start.DamagedPayload secret) was × (store_failed calls ≡ false)
IsRefusedUnder masters status.StoreFault was calls = store_failed calls ≡ true
IsRefusedUnder masters status.NoMemory was calls = store_failed calls ≡ false
IsRefusedUnder masters status.KeyFileFault was calls = ⊥
IsRefusedUnder masters (status.BadKeyFile bad) was calls = ⊥
IsRefusedUnder masters status.Done was calls = ⊥
IsRefusedUnder masters status.Words was calls = ⊥
IsRefusedUnder masters status.StoreExists was calls = ⊥
IsRefusedUnder masters status.LinkFault was calls = ⊥
IsRefusedUnder masters status.DrawFault was calls = ⊥
IsRefusedUnder masters (status.Rest place) was calls = ⊥
IsRefusedUnder masters (status.Unreadable place) was calls = ⊥

abbrev pub refusal_of : StartFault → Status
refusal_of start.NoStore = status.NoStore
refusal_of (start.Damaged place) = status.Damaged place
refusal_of (start.UnknownMaster project) = status.UnknownMaster project
refusal_of (start.DamagedPayload secret) = status.DamagedPayload secret
refusal_of start.StoreFault = status.StoreFault
refusal_of start.NoMemory = status.NoMemory

abbrev pub key_refusal_of : KeyFileFault → Status
key_refusal_of key_faults.Failed = status.KeyFileFault
key_refusal_of (key_faults.Bad bad) = status.BadKeyFile bad
key_refusal_of key_faults.NoMemory = status.NoMemory

-- a status with which a store is refused
abbrev pub IsRefusalStatus : {T : Type 0} → Result T Status → Type 0
IsRefusalStatus (Ok x) = Unit {0}
IsRefusalStatus (Err status.KeyFileFault) = Unit {0}
IsRefusalStatus (Err (status.BadKeyFile bad)) = Unit {0}
IsRefusalStatus (Err status.NoStore) = Unit {0}
IsRefusalStatus (Err (status.Damaged place)) = Unit {0}
IsRefusalStatus (Err (status.UnknownMaster project)) = Unit {0}
IsRefusalStatus (Err (status.DamagedPayload secret)) = Unit {0}
IsRefusalStatus (Err status.StoreFault) = Unit {0}
IsRefusalStatus (Err status.NoMemory) = Unit {0}
IsRefusalStatus (Err status.Done) = ⊥
IsRefusalStatus (Err status.Words) = ⊥
IsRefusalStatus (Err status.StoreExists) = ⊥
IsRefusalStatus (Err status.LinkFault) = ⊥
IsRefusalStatus (Err status.DrawFault) = ⊥
IsRefusalStatus (Err (status.Rest place)) = ⊥
IsRefusalStatus (Err (status.Unreadable place)) = ⊥

-- one that tells of the store
abbrev pub IsStoreRefusal : {T : Type 0} → Result T Status → Type 0
IsStoreRefusal (Ok x) = Unit {0}
IsStoreRefusal (Err status.KeyFileFault) = ⊥
IsStoreRefusal (Err (status.BadKeyFile bad)) = ⊥
IsStoreRefusal (Err status.NoStore) = Unit {0}
IsStoreRefusal (Err (status.Damaged place)) = Unit {0}
IsStoreRefusal (Err (status.UnknownMaster project)) = Unit {0}
IsStoreRefusal (Err (status.DamagedPayload secret)) = Unit {0}
IsStoreRefusal (Err status.StoreFault) = Unit {0}
IsStoreRefusal (Err status.NoMemory) = Unit {0}
IsStoreRefusal (Err status.Done) = ⊥
IsStoreRefusal (Err status.Words) = ⊥
IsStoreRefusal (Err status.StoreExists) = ⊥
IsStoreRefusal (Err status.LinkFault) = ⊥
IsStoreRefusal (Err status.DrawFault) = ⊥
IsStoreRefusal (Err (status.Rest place)) = ⊥
IsStoreRefusal (Err (status.Unreadable place)) = ⊥

-- What a stop leaves of the store stands for what it stood for when the run began, if nothing was pending then. The file that
-- isn't current is as it was, and both are where there is no store. There were at most two syncs.
pub record IsAsBefore (was h : History) : Type 0 where
  pub images : IsQuietStore was → (image : List ℕ × List ℕ) → IsImage h image → standing_of image ≡ standing_of (files was)
  pub none : standing_of (files was) ≡ None → (f : ℕ) → disk f h ≡ disk f was
  pub other : (s : Standing) → standing_of (files was) ≡ Some s → (f : ℕ) → s.file ≢ f → disk f h ≡ disk f was
  pub syncs : syncs h.calls ≤ syncs was.calls + 2

-- The key file was read, and then the store was attached; and then calls were made on its files alone, none after one that
-- failed; or it could not be attached, and that was all.
pub record AttachingCalls (key_file store : List ℕ) (calls : List Call) : Type 0 where
  pub text : List ℕ
  pub done : Result (Unit {0}) NameFault
  pub on_files : List Call
  pub made : calls ≡ on_files ++ Attached store done ∷ Text key_file 1024 (Ok text) ∷ []
  pub only : OnlyFiles on_files
  pub attached : IfAttached done on_files
  pub unfailed : IsUnfailedBefore calls

-- The same without the key file.
pub record AttachingAlone (store : List ℕ) (calls : List Call) : Type 0 where
  pub done : Result (Unit {0}) NameFault
  pub on_files : List Call
  pub made : calls ≡ on_files ++ Attached store done ∷ []
  pub only : OnlyFiles on_files
  pub attached : IfAttached done on_files
  pub unfailed : IsUnfailedBefore calls

-- Nothing was done but that the key file was read.
abbrev pub ReadingCall : (key_file : List ℕ) → List Call → Type 0
ReadingCall key_file calls = (read : Result (List ℕ) NameFault) × (calls ≡ Text key_file 1024 read ∷ [])

-- At each moment the store stood for what it stood for before.
abbrev pub StaysAsBefore : History → List Call → Type 0
StaysAsBefore was calls = AtEach (λ x. IsAsBefore was (then_calls was x)) calls

-- The first call reads the key file of this name, and the second, if there is one, attaches the store.
pub record BeginsWith (key_file store : List ℕ) (calls : List Call) : Type 0 where
  pub read : Result (List ℕ) NameFault
  pub later : List Call
  pub first : calls ≡ later ++ Text key_file 1024 read ∷ []
  pub second : (later ≡ []) ⊎ ((done : Result (Unit {0}) NameFault) × (more : List Call) × (later ≡ more ++ Attached store done ∷ []))

-- No store was opened, for this reason.
pub record IsUnopened (key_file store : List ℕ) (s : Status) (was : History) (calls : List Call) : Type 0 where
  pub opening : ReadingCall key_file calls ⊎ AttachingCalls key_file store calls
  pub each : StaysAsBefore was calls
  pub why : IsRefused key_file s was calls

-- A store was opened under the master keys.
pub record IsOpenedBy (key_file store : List ℕ) (engine : Held) (was : History) (calls : List Call) : Type 0 where
  pub opening : AttachingCalls key_file store calls
  pub each : StaysAsBefore was calls
  pub masters : List (List ℕ)
  pub keys : HasKeys was key_file masters
  pub start : IsStart masters (Ok engine) was (then_calls was calls)
  pub unfailed : store_failed calls ≡ false

abbrev pub OpensStore : (key_file store : List ℕ) → Result Held Status → History → List Call → Type 0
OpensStore key_file store (Ok engine) was calls = IsOpenedBy key_file store engine was calls
OpensStore key_file store (Err s) was calls = IsUnopened key_file store s was calls

-- what opening the store under these master keys did
abbrev pub OpensUnder : (store : List ℕ) → (masters : List (List ℕ)) → Result Held Status → History → List Call → Type 0
OpensUnder store masters (Ok engine) was calls =
    AttachingAlone store calls × StaysAsBefore was calls × IsStart masters (Ok engine) was (then_calls was calls) × (store_failed calls ≡ false)
OpensUnder store masters (Err s) was calls = AttachingAlone store calls × StaysAsBefore was calls × IsRefusedUnder masters s was calls
