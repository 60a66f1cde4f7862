-- The comma elements of a field's value (RFC 9110 section 5.6.1).
use Rattle.std.specs.Prelude.{ℕ, List, [], ◌∷◌, ◌==◌, not, if◌then◌else◌}
use Rattle.std.specs.List.{prefix_len}

-- a byte before the first element
abbrev pub onto : ℕ → List (List ℕ) → List (List ℕ)
onto b [] = (b ∷ []) ∷ []
onto b (e ∷ es) = (b ∷ e) ∷ es

-- the texts between the commas
abbrev pub elements : List ℕ → List (List ℕ)
elements [] = [] ∷ []
elements (b ∷ bytes) = if b == 44 then [] ∷ elements bytes else onto b (elements bytes)

-- how many bytes stand before the first one that is this
abbrev pub length_before : ℕ → List ℕ → ℕ
length_before end bytes = prefix_len (λ b. not (b == end)) bytes
