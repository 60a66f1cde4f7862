-- What the command `init` does: it names the store and, where there is none, draws a tag and creates a fresh one.
use Rattle.std.specs.Prelude.{◌≡◌, ◌⊎◌, ℕ, ◌<◌, ◌/◌, List, [], ◌∷◌, length, Option, Some, None, IfSome, Result, Ok, Err}
use Rattle.std.specs.Int.{w64, from_be_bytes}
use Rattle.kms_host.specs.Disk.{disk, files, reads, IsImage}
use Rattle.kms_host.specs.History.{History, then_call}
use Rattle.kms_host.specs.Moment.{AtEach, then_calls}
use Rattle.kms_host.specs.Line.{IsOpen}
use Rattle.kms_host.specs.Store.{apart_from_files, failed_store_calls, OnlyAttached}
use Rattle.kms_host.specs.declared.call.Call.{Call}
use Rattle.kms_host.specs.declared.call.Call.TheVariants.{Text, Listened, Came, Attached, Took, Gave, Shut, OnFile, Told, Drew}
use Rattle.kms_host.specs.declared.call.Failed.{Failed}
use Rattle.kms_host.specs.declared.call.NameFault.{NameFault}
use Rattle.kms_host.specs.declared.call.NameFault.TheVariants as names
use Rattle.kms_host.specs.declared.call.Purpose.TheVariants.{Tag}
use Rattle.kms_world.specs.State.{empty_state}
use Rattle.kms_journal.specs.Create.{fresh, fresh_rest}
use Rattle.kms_journal.specs.Device.{IsQuiet, IsQuietStore}
use Rattle.kms_journal.specs.Standing.{Standing, standing_of}
use Rattle.kms_journal.specs.declared.fault.CreateFault.{CreateFault}
use Rattle.kms_journal.specs.declared.fault.CreateFault.TheVariants as creation
use Rattle.kms_core.specs.Stands.{Stands}
use Rattle.kms_serve.specs.StoreCalls.{IsUnfailedBefore}
use Rattle.kms_serve.specs.declared.status.Status.{Status}
use Rattle.kms_serve.specs.declared.status.Status.TheVariants as status

-- the tag of a store: the first 60 bits of the eight bytes that were drawn for it
abbrev pub tag_of : List ℕ → ℕ
tag_of bytes = from_be_bytes w64 bytes / 16

-- a draw of a tag
abbrev pub DrawsTag : Result ℕ Failed → History → History → Type 0
DrawsTag (Ok tag) was now = (bytes : List ℕ) × (length bytes ≡ 8) × (tag ≡ tag_of bytes) × (now ≡ then_call was (Drew Tag (Some bytes)))
DrawsTag (Err e) was now = now ≡ then_call was (Drew Tag None)

-- the status where the store could not be named, and that of an answer to its creation
abbrev pub naming_status : NameFault → Status
naming_status names.Failed = status.StoreFault
naming_status names.NoMemory = status.NoMemory

abbrev pub creation_status : Result (Unit {0}) CreateFault → Status
creation_status (Ok done) = status.Done
creation_status (Err creation.Exists) = status.StoreExists
creation_status (Err creation.StoreFault) = status.StoreFault
creation_status (Err creation.NoMemory) = status.NoMemory

-- under any master keys the files stand for an empty key manager, whose ids have this tag
abbrev pub IsFreshStore : List ℕ × List ℕ → ℕ → Type 0
IsFreshStore image tag = ((masters : List (List ℕ)) → Stands masters image (empty_state tag) 0) × (standing_of image ≡ Some (fresh tag))

-- The calls that are not on a file, the newest first: the store was named, and then bytes were drawn for its tag.
abbrev pub naming : List ℕ → Result (Unit {0}) NameFault → List Call
naming store done = Attached store done ∷ []

abbrev pub drawing : List ℕ → Option (List ℕ) → List Call
drawing store bytes = Drew Tag bytes ∷ Attached store (Ok tt) ∷ []

-- the files are as before, and what is pending on them
abbrev pub AreAsBefore : History → List Call → Type 0
AreAsBefore was calls = (f : ℕ) → disk f (then_calls was calls) ≡ disk f was

abbrev pub IsNoStore : History → Type 0
IsNoStore was = standing_of (files was) ≡ None

abbrev pub IsStore : History → Type 0
IsStore was = (s : Standing) × (standing_of (files was) ≡ Some s)

-- There were no others: nothing was taken, given or shut, and no time told. A tag is drawn only where there is no store, and
-- of eight bytes.
abbrev pub IsAlone : List ℕ → History → List Call → Type 0
IsAlone store was apart =
    (apart ≡ [])
    ⊎ ((done : Result (Unit {0}) NameFault) × (apart ≡ naming store done))
    ⊎ (IsNoStore was × ((bytes : Option (List ℕ)) × IfSome bytes (λ drawn. length drawn ≡ 8) × (apart ≡ drawing store bytes)))

-- the store was attached, and a tag that was to be drawn was drawn
abbrev pub HasFiles : List ℕ → List Call → Type 0
HasFiles store apart = (apart ≡ naming store (Ok tt)) ⊎ ((bytes : List ℕ) × (apart ≡ drawing store (Some bytes)))

-- a call on a file comes only then
abbrev pub MayBeOnFile : List ℕ → List Call → Type 0
MayBeOnFile store [] = Unit {0}
MayBeOnFile store (Text name room bytes ∷ calls) = Unit {0}
MayBeOnFile store (Listened address done ∷ calls) = Unit {0}
MayBeOnFile store (Came line ∷ calls) = Unit {0}
MayBeOnFile store (Attached name done ∷ calls) = Unit {0}
MayBeOnFile store (Took line room bytes ∷ calls) = Unit {0}
MayBeOnFile store (Gave line piece went ∷ calls) = Unit {0}
MayBeOnFile store (Shut line ∷ calls) = Unit {0}
MayBeOnFile store (OnFile file c ∷ calls) = HasFiles store (apart_from_files calls)
MayBeOnFile store (Told t ∷ calls) = Unit {0}
MayBeOnFile store (Drew purpose bytes ∷ calls) = Unit {0}

-- After some of the calls, of which only the newest may be one of the store that failed. Each crash image stands for what the
-- files did before; or there was no store, the eight bytes of a tag were drawn by then, and the image is a fresh store of
-- this tag. A store that was there is left alone.
pub record IsUnderWay (store : List ℕ) (was : History) (calls : List Call) : Type 0 where
  pub alone : IsAlone store was (apart_from_files calls)
  pub on_file : MayBeOnFile store calls
  pub unfailed : IsUnfailedBefore calls
  pub images : IsQuietStore was → (image : List ℕ × List ℕ) → IsImage (then_calls was calls) image
      → (standing_of image ≡ standing_of (files was))
      ⊎ (IsNoStore was × ((bytes : List ℕ) × (length bytes ≡ 8) × (apart_from_files calls ≡ drawing store (Some bytes)) × IsFreshStore image (tag_of bytes)))
  pub kept : IsStore was → AreAsBefore was calls

-- There was no store. Eight bytes were drawn, and the files as they read now are a fresh store of their tag, in file 0 and
-- with no byte more there, and nothing is pending on it. So is each crash image, if nothing was pending when the run began.
pub record IsCreated (store : List ℕ) (was : History) (calls : List Call) : Type 0 where
  pub none : IsNoStore was
  pub bytes : List ℕ
  pub eight : length bytes ≡ 8
  pub drawn : apart_from_files calls ≡ drawing store (Some bytes)
  pub fresh : IsFreshStore (files (then_calls was calls)) (tag_of bytes)
  pub whole : reads 0 (then_calls was calls) ≡ 1 ∷ fresh_rest (tag_of bytes)
  pub rests : IsQuiet 0 (then_calls was calls)
  pub quiet : IsQuietStore was → IsQuietStore (then_calls was calls)
  pub images : IsQuietStore was → (image : List ℕ × List ℕ) → IsImage (then_calls was calls) image → IsFreshStore image (tag_of bytes)

-- There was no store, drawing its tag failed, and the files are as before.
pub record IsUndrawn (store : List ℕ) (was : History) (calls : List Call) : Type 0 where
  pub none : IsNoStore was
  pub failed : apart_from_files calls ≡ drawing store None
  pub kept : AreAsBefore was calls

-- What a status says of the calls.
abbrev pub IsInitEnd : List ℕ → Status → History → List Call → Type 0
IsInitEnd store status.Done was calls = IsCreated store was calls
IsInitEnd store status.StoreExists was calls = IsStore was × (apart_from_files calls ≡ naming store (Ok tt))
IsInitEnd store status.StoreFault was calls = 0 < failed_store_calls calls
IsInitEnd store status.DrawFault was calls = IsUndrawn store was calls
IsInitEnd store status.NoMemory was calls = calls ≡ naming store (Err names.NoMemory)
IsInitEnd store status.Words was calls = ⊥
IsInitEnd store status.NoStore was calls = ⊥
IsInitEnd store status.LinkFault was calls = ⊥
IsInitEnd store (status.Rest place) was calls = ⊥
IsInitEnd store (status.Unreadable place) was calls = ⊥
IsInitEnd store (status.Damaged place) was calls = ⊥
IsInitEnd store status.KeyFileFault was calls = ⊥
IsInitEnd store (status.BadKeyFile bad) was calls = ⊥
IsInitEnd store (status.UnknownMaster project) was calls = ⊥
IsInitEnd store (status.DamagedPayload secret) was calls = ⊥

-- A run of `init` that ended so and made these calls, the newest first. A call of the store failed exactly where that is
-- the status.
pub record Inits (store : List ℕ) (s : Status) (was : History) (calls : List Call) : Type 0 where
  pub each : AtEach (IsUnderWay store was) calls
  pub end : IsInitEnd store s was calls
  pub faultless : (s ≡ status.StoreFault → ⊥) → failed_store_calls calls ≡ 0

-- The store of this name can be served: no other was attached, and line 0 is open.
pub record CanBeServed (store : List ℕ) (h : History) : Type 0 where
  pub named : OnlyAttached store h.calls
  pub unshut : IsOpen 0 h

-- After a run of `init` the store can be served over the same host, if it could before.
abbrev pub IsServedNext : Type 0
IsServedNext = (store : List ℕ) (s : Status) (was : History) (calls : List Call) → Inits store s was calls → CanBeServed store was → CanBeServed store (then_calls was calls)

-- what creating a store can end with
abbrev pub IsInitStatus : Status → Type 0
IsInitStatus status.Done = Unit {0}
IsInitStatus status.StoreExists = Unit {0}
IsInitStatus status.NoMemory = Unit {0}
IsInitStatus status.StoreFault = Unit {0}
IsInitStatus status.DrawFault = Unit {0}
IsInitStatus status.Words = ⊥
IsInitStatus status.NoStore = ⊥
IsInitStatus status.LinkFault = ⊥
IsInitStatus (status.Rest place) = ⊥
IsInitStatus (status.Unreadable place) = ⊥
IsInitStatus (status.Damaged place) = ⊥
IsInitStatus status.KeyFileFault = ⊥
IsInitStatus (status.BadKeyFile bad) = ⊥
IsInitStatus (status.UnknownMaster project) = ⊥
IsInitStatus (status.DamagedPayload secret) = ⊥

-- no call of the store failed and none that draws: there is a store now, or the run was out of memory
abbrev pub IsInitDone : Status → Type 0
IsInitDone status.Done = Unit {0}
IsInitDone status.StoreExists = Unit {0}
IsInitDone status.NoMemory = Unit {0}
IsInitDone status.StoreFault = ⊥
IsInitDone status.DrawFault = ⊥
IsInitDone status.Words = ⊥
IsInitDone status.NoStore = ⊥
IsInitDone status.LinkFault = ⊥
IsInitDone (status.Rest place) = ⊥
IsInitDone (status.Unreadable place) = ⊥
IsInitDone (status.Damaged place) = ⊥
IsInitDone status.KeyFileFault = ⊥
IsInitDone (status.BadKeyFile bad) = ⊥
IsInitDone (status.UnknownMaster project) = ⊥
IsInitDone (status.DamagedPayload secret) = ⊥
