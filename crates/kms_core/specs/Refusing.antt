-- What a fault of the journal means for the engine.
use Rattle.std.specs.Prelude.{◌≡◌, ◌⊎◌, ℕ}
use Rattle.kms_kept.specs.Kept.{Kept}
use Rattle.kms_journal.specs.declared.chain.Chain.{Chain}
use Rattle.kms_journal.specs.declared.fault.JournalFault.{JournalFault}
use Rattle.kms_journal.specs.declared.fault.JournalFault.TheVariants as journal
use Rattle.kms_journal.specs.declared.fault.Place.TheVariants.{Body}
use Rattle.kms_sealing.specs.declared.fault.OpeningFault.{OpeningFault}
use Rattle.kms_sealing.specs.declared.fault.OpeningFault.TheVariants as opening
use Rattle.kms_store.specs.Loading.{IsBrokenAt, LeadsChain}
use Rattle.kms_store.specs.declared.load_fault.LoadFault.{LoadFault}
use Rattle.kms_store.specs.declared.load_fault.LoadFault.TheVariants as load
use Rattle.kms_core.specs.declared.start_fault.StartFault.{StartFault}
use Rattle.kms_core.specs.declared.start_fault.StartFault.TheVariants.{NoStore, Damaged, UnknownMaster, DamagedPayload, StoreFault, NoMemory}

-- the first damage of a chain that stops at this place and isn't whole
abbrev pub IsFirstDamage : Chain → ℕ → ℕ → Type 0
IsFirstDamage chain stop at = IsBrokenAt chain at ⊎ ((at ≡ stop) × ((kept : Kept) × LeadsChain chain kept))

abbrev pub Refuses : JournalFault → StartFault → Type 0
Refuses journal.NoStore fault = fault ≡ NoStore
Refuses journal.StoreFault fault = fault ≡ StoreFault
Refuses journal.NoMemory fault = fault ≡ NoMemory
Refuses (journal.Damaged (Body file stop) chain) fault =
    (fault ≡ NoMemory) ⊎ ((at : ℕ) × (fault ≡ Damaged (Body chain.file at)) × IsFirstDamage chain stop at)

-- what a fault of loading this chain means for the engine
abbrev pub fault_of : Chain → LoadFault → StartFault
fault_of chain (load.Damaged at) = Damaged (Body chain.file at)
fault_of chain load.NoMemory = NoMemory

-- what a fault of opening what is kept means for the engine
abbrev pub start_fault : OpeningFault → StartFault
start_fault (opening.UnknownMaster project) = UnknownMaster project
start_fault (opening.Damaged secret) = DamagedPayload secret
start_fault opening.NoMemory = NoMemory
