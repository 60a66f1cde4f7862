-- The change that deletes what has an id.
use Rattle.std.specs.Prelude.{◌≡◌, ℕ}
use Rattle.kms_world.specs.Id.{id_at}
use Rattle.kms_world.specs.declared.id.Id.{Id}
use Rattle.kms_record.specs.declared.change.Change.{Change}
use Rattle.kms_record.specs.declared.change.Change.TheVariants.{Deleted}

-- under a store's tag
pub record Deletes (tag : ℕ) (id : Id) (change : Change) : Type 0 where
  pub count : ℕ
  pub is : change ≡ Deleted count
  pub of : id_at tag count ≡ id
