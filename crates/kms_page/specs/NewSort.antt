-- One step of the code that reads sort keys: only contracts of private functions cite it.
use Rattle.std.specs.Prelude.{ℕ, Bool, List, Option, Some, None, if◌then◌else◌}
use Rattle.std.specs.Option.{option_and_then}
use Rattle.kms_page.specs.declared.sorts.SortKey.{SortKey}
use Rattle.kms_page.specs.Sorts.{sort_of, has_key}

-- the sort that a piece is, where none of those before it has its key
abbrev pub new_sort : List (SortKey × Bool) → List ℕ → Option (SortKey × Bool)
new_sort sorts piece = option_and_then (λ sort. if has_key sort.0 sorts then None else Some sort) (sort_of piece)
