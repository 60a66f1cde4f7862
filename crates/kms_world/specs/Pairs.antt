-- Pairs of a key and a value, the keys ascending by their bytes.
use Rattle.std.specs.Prelude.{ℕ, ◌<◌, List, length, slice_index_or, Bool, IsTrue}
use Rattle.std.specs.Ordering.{nat_cmp, is_lt}
use Rattle.std.specs.Cmp.Lexicographic.{slice_cmp}

-- the first text comes before the second by its bytes
abbrev pub is_below : List ℕ → List ℕ → Bool
is_below a b = is_lt (slice_cmp nat_cmp a b)

-- each key comes before all later ones
pub record Ascends (pairs : List (List ℕ × List ℕ)) : Type 0 where
  pub below : (i j : ℕ) (d : List ℕ × List ℕ) → i < j → j < length pairs → IsTrue (is_below (slice_index_or pairs i d).0 (slice_index_or pairs j d).0)
