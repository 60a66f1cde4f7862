-- What a store's chain leads to.
use Rattle.std.specs.Prelude.{◌≡◌, ◌⊎◌, ℕ, List, Bool, Result, Ok, Err}
use Rattle.kms_kept.specs.Kept.{Kept}
use Rattle.kms_journal.specs.declared.chain.Chain.{Chain}
use Rattle.kms_store.specs.Stands.{LeadTo, BreakAt, IsSnapshotOf, IsNoSnapshot}
use Rattle.kms_store.specs.declared.load_fault.LoadFault.{LoadFault}
use Rattle.kms_store.specs.declared.load_fault.LoadFault.TheVariants.{Damaged, NoMemory}

-- the chain is damaged at this place, whatever it stops at
abbrev pub IsBrokenAt : Chain → ℕ → Type 0
IsBrokenAt chain at =
    (IsNoSnapshot chain.tag chain.ids chain.base × (at ≡ 0))
    ⊎ ((first : Kept) × IsSnapshotOf chain.tag chain.ids chain.base first × ((stop : ℕ) (is_whole : Bool) → BreakAt chain.bodies stop is_whole first at))

-- the snapshot and all records apply, and this is kept after them
pub record LeadsChain (chain : Chain) (kept : Kept) : Type 0 where
  pub first : Kept
  pub snapshot : IsSnapshotOf chain.tag chain.ids chain.base first
  pub records : LeadTo chain.bodies first kept

-- what is kept after the chain, or its first damage
abbrev pub Loads : {T : Type 0} → (T → Kept) → Chain → Result T LoadFault → Type 0
Loads kept_of chain (Ok loaded) = LeadsChain chain (kept_of loaded)
Loads kept_of chain (Err (Damaged at)) = IsBrokenAt chain at
Loads kept_of chain (Err NoMemory) = Unit {0}

-- the same of records, from what is kept before them
abbrev pub LoadsRecords : {T : Type 0} → List (ℕ × List ℕ) → (before after : Kept) → Result T LoadFault → Type 0
LoadsRecords items before after (Ok done) = LeadTo items before after
LoadsRecords items before after (Err (Damaged at)) = (stop : ℕ) (is_whole : Bool) → BreakAt items stop is_whole before at
LoadsRecords items before after (Err NoMemory) = Unit {0}
