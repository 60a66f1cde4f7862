-- Ids rise in each table that has ids, and are ids that were given.
use Rattle.std.specs.Prelude.{◌≡◌, ℕ, ◌<◌, List, [], ◌∷◌}
use Rattle.std.specs.List.{AllByRecursion}
use Rattle.kms_world.specs.State.{State}
use Rattle.kms_world.specs.declared.id.Id.{Id}
use Rattle.kms_world.specs.Id.{id_at}
use Rattle.kms_kept.specs.Kept.{secret_ids, container_ids, order_ids}

-- the id is that of a count below the ids given
pub record IsGiven (tag ids : ℕ) (id : Id) : Type 0 where
  pub count : ℕ
  pub below : count < ids
  pub is : id ≡ id_at tag count

-- each was given, and is below all that stand after it
abbrev pub Rises : (tag ids : ℕ) → List Id → Type 0
Rises tag ids [] = Unit {0}
Rises tag ids (first ∷ rest) = IsGiven tag ids first × AllByRecursion (λ (other : Id). first.0 < other.0) rest × Rises tag ids rest

pub record IsRising (s : State) : Type 0 where
  pub secrets : Rises s.tag s.ids (secret_ids s)
  pub containers : Rises s.tag s.ids (container_ids s)
  pub orders : Rises s.tag s.ids (order_ids s)
