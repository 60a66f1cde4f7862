-- Pairs that are put one after the other while their keys ascend.
use Rattle.std.specs.Prelude.{ℕ, Bool, true, ◌&&◌, List, [], ◌∷◌, Option, Some, None, if◌then◌else◌}
use Rattle.kms_world.specs.Pairs.{is_below}

-- the pair comes after the last, if there is one
abbrev pub is_next : List (List ℕ × List ℕ) → List ℕ × List ℕ → Bool
is_next [] pair = true
is_next (last ∷ []) pair = is_below last.0 pair.0
is_next (first ∷ second ∷ pairs) pair = is_next (second ∷ pairs) pair

-- each key comes before the next one
abbrev pub ascend : List (List ℕ × List ℕ) → Bool
ascend [] = true
ascend (pair ∷ []) = true
ascend (pair ∷ next ∷ pairs) = is_below pair.0 next.0 && ascend (next ∷ pairs)

abbrev pub if_ascending : List (List ℕ × List ℕ) → Option (List (List ℕ × List ℕ))
if_ascending pairs = if ascend pairs then Some pairs else None
