-- A change that is given out of a list of them.
use Rattle.std.specs.Prelude.{◌≡◌, List, [], ◌∷◌, Option, Some, None}
use Rattle.kms_record.specs.declared.base.BaseChange.{BaseChange}
use Rattle.kms_record.specs.declared.change.Change.{Change}
use Rattle.kms_record.specs.Base.{as_change}

-- The first of these changes is given, and these are the rest; nothing is given where there is none.
abbrev pub Gives : Option BaseChange → (changes rest : List Change) → Type 0
Gives None changes rest = (changes ≡ []) × (rest ≡ [])
Gives (Some given) changes rest = (change : Change) × (as_change given ≡ Some change) × (changes ≡ change ∷ rest)
