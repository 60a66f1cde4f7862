-- Key files by their names.
use Rattle.std.specs.Prelude.{ℕ, List, Option, option_map, find}
use Rattle.std.specs.Str.{bytes_eq}

-- the bytes of the key file of this name, the first where several have it
abbrev pub named : List ℕ → List (List ℕ × List ℕ) → Option (List ℕ)
named name files = option_map (λ f. f.1) (find (λ f. bytes_eq f.0 name) files)
