-- Names, each at most once.
use Rattle.std.specs.Prelude.{ℕ, ◌<◌, ◌≢◌, List, length, slice_index_or}

-- no two places have the same name
pub record IsWithoutRepeats (names : List (List ℕ)) : Type 0 where
  pub apart : (i j : ℕ) (d : List ℕ) → i < j → j < length names → slice_index_or names i d ≢ slice_index_or names j d
