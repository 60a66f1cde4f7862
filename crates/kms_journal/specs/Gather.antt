-- What is read of a store's current file, behind its header.
use Rattle.std.specs.Prelude.{◌≡◌, ℕ, ◌+◌, ◌≤◌, List, length, take, drop, Result, IfOk, OnOk}
use Rattle.kms_host.specs.Disk.{reads}
use Rattle.kms_host.specs.History.{History}
use Rattle.kms_host.specs.Moment.{Throughout}
use Rattle.kms_journal.specs.Ahead.{IsAhead}
use Rattle.kms_journal.specs.Answers.{chain_at}
use Rattle.kms_journal.specs.Device.{IsUntouched}
use Rattle.kms_journal.specs.Walk.{records_at, StopsAs}
use Rattle.kms_journal.specs.declared.chain.Chain.{Chain}
use Rattle.kms_journal.specs.declared.header.Current.{Current}
use Rattle.kms_journal.specs.declared.walk.Stop.{Stop}

-- The part is read that lies in the file, with the bytes from its place on in the buffer, and then those behind it are.
pub record ReadsPart {E : Type 0} (file at size : ℕ) (old new : List ℕ) (result : Result (List ℕ) E) (was now : History) : Type 0 where
  pub throughout : Throughout (IsUntouched was) was now
  pub part : IfOk result (λ part. IsAhead file at old was → at + size ≤ length (reads file was) → part ≡ take size (drop at (reads file was)))
  pub ahead : OnOk result (IsAhead file at old was → at + size ≤ length (reads file was) → IsAhead file (at + size) new was)

-- the records of a file of this length, and where they stop
pub record AreGathered (bytes : List ℕ) (start : ℕ) (found : List (ℕ × List ℕ)) (end : Stop) : Type 0 where
  pub items : found ≡ (records_at bytes start).items
  pub stop : StopsAs bytes start end

pub record Gathered {E : Type 0} (file start size : ℕ) (old : List ℕ) (result : Result (List (ℕ × List ℕ) × Stop) E) (was now : History) : Type 0 where
  pub throughout : Throughout (IsUntouched was) was now
  pub found : IfOk result (λ found. size ≡ length (reads file was) → IsAhead file start old was → AreGathered (reads file was) start found.0 found.1)

-- what the bytes of a current file say
pub record IsReadChain (c : Current) (bytes : List ℕ) (found : Chain) (end : Stop) : Type 0 where
  pub chain : found ≡ chain_at c bytes
  pub stop : StopsAs bytes (50 + c.header.snapshot) end

pub record ReadsChain {E : Type 0} (c : Current) (result : Result (Chain × Stop) E) (was now : History) : Type 0 where
  pub throughout : Throughout (IsUntouched was) was now
  pub found : IfOk result (λ found. c.size ≡ length (reads c.header.file was) → IsReadChain c (reads c.header.file was) found.0 found.1)
