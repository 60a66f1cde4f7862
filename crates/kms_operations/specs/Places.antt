-- Places of the rows that a list shows.
use Rattle.std.specs.Prelude.{◌≡◌, ℕ, ◌<◌, Bool, List, length, take, filter}
use Rattle.std.specs.List.{AllByRecursion}
use Rattle.kms_page.specs.Page.{rows_at}

-- these are the places of those of the first so many rows that pass the test
pub record AreThose {X : Type 0} (test : X → Bool) (rows : List X) (count : ℕ) (places : List ℕ) : Type 0 where
  pub within : AllByRecursion (λ place. place < length rows) places
  pub those : rows_at rows places ≡ filter test (take count rows)
