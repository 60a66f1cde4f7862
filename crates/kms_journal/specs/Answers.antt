-- What the reading calls answer.
use Rattle.std.specs.Prelude.{◌≡◌, ℕ, ◌+◌, List, [], take, drop, Result, Ok, Err, Bool, is_some, IfOk}
use Rattle.kms_host.specs.Disk.{files}
use Rattle.kms_host.specs.History.{History}
use Rattle.kms_host.specs.Moment.{Throughout}
use Rattle.kms_journal.specs.Device.{IsUntouched}
use Rattle.kms_journal.specs.Standing.{Standing, standing_of}
use Rattle.kms_journal.specs.Walk.{records_at}
use Rattle.kms_journal.specs.declared.chain.Chain.{Chain}
use Rattle.kms_journal.specs.declared.header.Current.{Current}
use Rattle.kms_journal.specs.declared.header.Header.{Header}
use Rattle.kms_journal.specs.declared.fault.JournalFault.{JournalFault}
use Rattle.kms_journal.specs.declared.fault.JournalFault.TheVariants.{NoStore, StoreFault, Damaged, NoMemory}

-- what is answered of a store that stands for this
abbrev pub chain_of : Standing → Chain
chain_of s = record { file = s.file; tag = s.tag; ids = s.ids; steps = s.steps; base = s.snapshot; bodies = s.records }

-- the same, from the header of the current file and its bytes
abbrev pub chain_at : Current → List ℕ → Chain
chain_at c bytes = record {
  file = c.header.file;
  tag = c.header.tag;
  ids = c.header.ids;
  steps = c.header.steps;
  base = take c.header.snapshot (drop 50 bytes);
  bodies = (records_at bytes (50 + c.header.snapshot)).items;
}

-- the same where the snapshot isn't whole
abbrev pub headed_alone : Header → Chain
headed_alone header = record { file = header.file; tag = header.tag; ids = header.ids; steps = header.steps; base = []; bodies = [] }

-- a journal that is placed answers no other faults than these
abbrev pub IsGathering : Standing → Result Chain JournalFault → Type 0
IsGathering s (Ok chain) = chain ≡ chain_of s
IsGathering s (Err NoStore) = ⊥
IsGathering s (Err (Damaged place chain)) = ⊥
IsGathering s (Err StoreFault) = Unit {0}
IsGathering s (Err NoMemory) = Unit {0}

pub record Gathers (s : Standing) (result : Result Chain JournalFault) (was now : History) : Type 0 where
  pub throughout : Throughout (IsUntouched was) was now
  pub answer : IsGathering s result

-- whether there is a store
pub record Looks {E : Type 0} (result : Result Bool E) (was now : History) : Type 0 where
  pub throughout : Throughout (IsUntouched was) was now
  pub answer : IfOk result (λ found. found ≡ is_some (standing_of (files was)))
