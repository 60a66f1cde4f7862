-- Tables whose ids rise.
use Rattle.std.specs.Prelude.{ℕ, ◌≡◌, ◌+◌, ◌<◌, ◌≤◌, List, [], ◌∷◌, map, vec_len, vec_capacity}
use Rattle.std.specs.Global.{Vec}
use Rattle.std.specs.List.{AllByRecursion}
use Rattle.kms_world.specs.declared.id.Id.{Id}

-- the rows of a table, and for how many more there is memory
pub record Tabular (X : Type 0) : Type 0 where
  pub items : List X
  pub spare : ℕ

-- the ids of the rows in their order, and memory for so many more of both
pub record IsIndexed {X : Type 0} (id_of : X → Id) (ids : Vec Id) (rows : Vec X) (spare : ℕ) : Type 0 where
  pub same : ids.items ≡ map id_of rows.items
  pub ids_fit : vec_len ids + spare ≤ vec_capacity ids
  pub rows_fit : vec_len rows + spare ≤ vec_capacity rows

-- each id is below all that stand after it
abbrev pub Rises : List Id → Type 0
Rises [] = Unit {0}
Rises (first ∷ rest) = AllByRecursion (λ (other : Id). first.0 < other.0) rest × Rises rest
