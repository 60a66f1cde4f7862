-- A list in order, by a stable sort: what ties stays in its order.
use Rattle.std.specs.Prelude.{List, [], ◌∷◌, if◌then◌else◌}
use Rattle.std.specs.declared.cmp.Ordering.{Ordering}
use Rattle.std.specs.Ordering.{is_gt}

module _ {X : Type 0} (cmp : X → X → Ordering) where
  -- one element more, in front of the first that isn't below it
  abbrev pub put : X → List X → List X
  put x [] = x ∷ []
  put x (y ∷ ys) = if is_gt (cmp x y) then y ∷ put x ys else x ∷ y ∷ ys

  abbrev pub sorted : List X → List X
  sorted [] = []
  sorted (x ∷ xs) = put x (sorted xs)
