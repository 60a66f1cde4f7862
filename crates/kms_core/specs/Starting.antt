-- What starting over a store answers, and does to it.
use Rattle.std.specs.Prelude.{◌≡◌, ℕ, List, Some, None, Result, Ok, Err, Bool, true, false}
use Rattle.kms_host.specs.Disk.{files}
use Rattle.kms_host.specs.History.{History}
use Rattle.kms_host.specs.Moment.{Throughout}
use Rattle.kms_journal.specs.Device.{IsQuiet, IsQuietStore}
use Rattle.kms_journal.specs.Position.{Position, IsPlaced}
use Rattle.kms_journal.specs.Recovery.{KeepsStanding}
use Rattle.kms_journal.specs.Standing.{Standing, standing_of}
use Rattle.kms_journal.specs.declared.fault.Place.TheVariants.{Body}
use Rattle.kms_world.specs.State.{State}
use Rattle.kms_kept.specs.Kept.{Kept}
use Rattle.kms_sealing.specs.Opening.{IsUnknown, IsDamaged as IsPayloadDamaged}
use Rattle.kms_store.specs.Settling.{IsOpened as IsStoreOpened}
use Rattle.kms_store.specs.Staged.{nothing_staged}
use Rattle.kms_store.specs.Stands.{IsDamagedAt, StandFor}
use Rattle.kms_store.specs.Store.{Stored}
use Rattle.kms_core.specs.Stands.{Stands}
use Rattle.kms_core.specs.Steps.{Held, HasState, IsSettled}
use Rattle.kms_core.specs.declared.start_fault.StartFault.{StartFault}
use Rattle.kms_core.specs.declared.start_fault.StartFault.TheVariants.{NoStore, Damaged, UnknownMaster, DamagedPayload, StoreFault, NoMemory}

-- the fault of the store is answered
abbrev pub is_failed_start : {T : Type 0} → Result T StartFault → Bool
is_failed_start (Ok x) = false
is_failed_start (Err NoStore) = false
is_failed_start (Err (Damaged place)) = false
is_failed_start (Err (UnknownMaster project)) = false
is_failed_start (Err (DamagedPayload secret)) = false
is_failed_start (Err StoreFault) = true
is_failed_start (Err NoMemory) = false

-- this is kept in the files as they read at first, and it is so
pub record IsKeptSo (was : History) (P : Kept → Type 0) : Type 0 where
  pub kept : Kept
  pub steps : ℕ
  pub keeps : StandFor (files was) kept steps
  pub is : P kept

-- What a fault says of the files as they read at first: there is no store, or this is the first place at which what it
-- keeps is damaged; or what is kept doesn't open under the master keys: no master key opens the first wrapped key of this
-- project, by project and number, or the payload of this secret doesn't open, the first by creation.
abbrev pub IsRefusal : (masters : List (List ℕ)) → StartFault → History → Type 0
IsRefusal masters NoStore was = standing_of (files was) ≡ None
IsRefusal masters (Damaged place) was = (s : Standing) × (at : ℕ) × (standing_of (files was) ≡ Some s) × (place ≡ Body s.file at) × IsDamagedAt s at
IsRefusal masters (UnknownMaster project) was = IsKeptSo was (λ kept. IsUnknown masters kept.keys project)
IsRefusal masters (DamagedPayload secret) was = IsKeptSo was (λ kept. IsPayloadDamaged masters kept secret)
IsRefusal masters StoreFault was = Unit {0}
IsRefusal masters NoMemory was = Unit {0}

-- An engine has the state for which the files stood at first under the master keys, with its journal at the store's end, and no
-- step waits. Nothing is pending on the current file, whatever was pending before.
pub record IsEngineOf (masters : List (List ℕ)) (engine : Held) (was now : History) : Type 0 where
  pub state : State
  pub steps : ℕ
  pub stands : Stands masters (files was) state steps
  pub masters_are : engine.masters ≡ masters
  pub kept : engine.store.stored.kept ≡ stands.kept
  pub settled : IsSettled masters engine steps state now
  pub quiet : IsQuietStore was → IsQuietStore now
  pub rests : IsQuiet engine.store.journal.file now

abbrev pub IsStart : (masters : List (List ℕ)) → Result Held StartFault → History → History → Type 0
IsStart masters (Ok engine) was now = IsEngineOf masters engine was now
IsStart masters (Err fault) was now = IsRefusal masters fault was

-- While it starts, each crash image stands for what the files did at first.
pub record Starts (masters : List (List ℕ)) (result : Result Held StartFault) (was now : History) : Type 0 where
  pub throughout : Throughout (KeepsStanding was) was now
  pub answer : IsStart masters result was now

-- What starting over a store that stands for this state can answer: an engine that has the state, or that a call of the store
-- failed, or that it was out of memory.
abbrev pub OpensTo : State → Result Held StartFault → Type 0
OpensTo state (Ok engine) = HasState engine state
OpensTo state (Err NoStore) = ⊥
OpensTo state (Err (Damaged place)) = ⊥
OpensTo state (Err (UnknownMaster project)) = ⊥
OpensTo state (Err (DamagedPayload secret)) = ⊥
OpensTo state (Err StoreFault) = Unit {0}
OpensTo state (Err NoMemory) = Unit {0}

-- What a fault says before anything is opened.
abbrev pub IsStoreRefusal : StartFault → History → Type 0
IsStoreRefusal fault was = (masters : List (List ℕ)) → IsRefusal masters fault was

-- the same of a journal alone
abbrev pub IsJournal : Result Position StartFault → History → History → Type 0
IsJournal (Ok journal) was now = (s : Standing) × (standing_of (files was) ≡ Some s) × IsPlaced journal now s × (IsQuietStore was → IsQuietStore now) × IsQuiet s.file now
IsJournal (Err fault) was now = IsStoreRefusal fault was

pub record OpensJournal (result : Result Position StartFault) (was now : History) : Type 0 where
  pub throughout : Throughout (KeepsStanding was) was now
  pub answer : IsJournal result was now

-- A store that was loaded and its journal: they keep what the files did at first, with the journal at its end, and nothing is
-- staged.
pub record IsLoaded (journal : Position) (store : Stored) (was now : History) : Type 0 where
  pub steps : ℕ
  pub keeps : StandFor (files was) store.kept steps
  pub opened : IsStoreOpened store journal now store.kept steps
  pub staging : store.staging ≡ nothing_staged
  pub quiet : IsQuietStore was → IsQuietStore now
  pub rests : IsQuiet journal.file now

abbrev pub IsLoad : Result (Position × Stored) StartFault → History → History → Type 0
IsLoad (Ok loaded) was now = IsLoaded loaded.0 loaded.1 was now
IsLoad (Err fault) was now = IsStoreRefusal fault was

pub record LoadsStore (result : Result (Position × Stored) StartFault) (was now : History) : Type 0 where
  pub throughout : Throughout (KeepsStanding was) was now
  pub answer : IsLoad result was now
