-- Members that are taken one after the other.
use Rattle.std.proofs.Common.{ℕ, List, ◌++◌, Option}
use Rattle.std.specs.Option.{option_map}
use Rattle.kms_world.specs.declared.id.Id.{Id}

-- members after those that were taken
abbrev pub after : List (Option (List ℕ) × Id) → Option (List (Option (List ℕ) × Id)) → Option (List (Option (List ℕ) × Id))
after taken members = option_map (λ others. taken ++ others) members
