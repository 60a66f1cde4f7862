-- Changes that are spelled piece by piece.
use Rattle.std.specs.Prelude.{◌≡◌, ◌<◌, ℕ, List, [], Option, Some, None, length}
use Rattle.kms_record.specs.declared.base.BaseChange.{BaseChange}
use Rattle.kms_record.specs.declared.change.Change.{Change}
use Rattle.kms_record.specs.Base.{base_bytes, IsBaseInRange}

abbrev pub bytes_given : Option BaseChange → List ℕ
bytes_given None = []
bytes_given (Some change) = base_bytes change

-- the change is in its range, and after so many of its bytes some are left
abbrev pub IsBegun : Option BaseChange → (from : ℕ) → (after : List Change) → Type 0
IsBegun None from after = after ≡ []
IsBegun (Some change) from after = IsBaseInRange change × (from < length (base_bytes change))
