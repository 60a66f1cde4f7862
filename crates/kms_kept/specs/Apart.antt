-- A secret, a container and an order never have the same id.
use Rattle.std.specs.Prelude.{◌≡◌, false, List}
use Rattle.std.specs.List.{AllByRecursion}
use Rattle.kms_world.specs.Id.{is_id}
use Rattle.kms_world.specs.State.{State}
use Rattle.kms_world.specs.declared.id.Id.{Id}
use Rattle.kms_kept.specs.Kept.{secret_ids, container_ids, order_ids}

-- the id isn't among these
abbrev pub IsOther : List Id → Id → Type 0
IsOther ids id = AllByRecursion (λ (other : Id). is_id id other ≡ false) ids

abbrev pub AreApart : (ids others : List Id) → Type 0
AreApart ids others = AllByRecursion (IsOther others) ids

pub record AreIdsApart (s : State) : Type 0 where
  pub containers : AreApart (container_ids s) (secret_ids s)
  pub orders : AreApart (order_ids s) (secret_ids s)
  pub orders_too : AreApart (order_ids s) (container_ids s)
