-- Keys by project and number.
use Rattle.std.specs.Prelude.{ℕ, List, []}
use Rattle.kms_record.specs.declared.key.WrappedKey.{WrappedKey}

-- a key of this project with this number
abbrev pub named_key : (project : List ℕ) → (number : ℕ) → WrappedKey
named_key project number = record { project = project; number = number; wrapped = [] }
