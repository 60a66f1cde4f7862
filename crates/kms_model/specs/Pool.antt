-- What holds of a pool of workers in a run.
use Rattle.std.specs.Prelude.{◌≡◌, ℕ, ◌/◌, List, length, get_or, true}
use Rattle.std.specs.List.{Contains}
use Rattle.kms_world.specs.State.{State}
use Rattle.kms_world.specs.declared.id.Id.{Id}
use Rattle.kms_world.specs.declared.order.OrderRow.{OrderRow}
use Rattle.kms_world.specs.declared.order.OrderState.TheVariants.{Pending}
use Rattle.kms_model.specs.OrderLaw.{WasGiven}
use Rattle.kms_model.specs.Worker.{Worker, holds, is_offered}
use Rattle.kms_model.specs.Worker.Worker.{Free, Taken, Drawn}

-- the id was given to an order, which is pending, or isn't there any more
pub record IsHeld (s : State) (id : Id) : Type 0 where
  pub given : WasGiven s id
  pub pending : (o : OrderRow) → Contains s.orders o → o.id ≡ id → o.state ≡ Pending

-- where the order is there, a key of its kind is offered, and this one has its size
pub record IsKeyFor (s : State) (id : Id) (key : List ℕ) : Type 0 where
  pub offered : (o : OrderRow) → Contains s.orders o → o.id ≡ id → is_offered o ≡ true
  pub size : (o : OrderRow) → Contains s.orders o → o.id ≡ id → length key ≡ o.bit_length / 8

abbrev pub HoldsWell : State → Worker → Type 0
HoldsWell s Free = Unit {0}
HoldsWell s (Taken id) = IsHeld s id
HoldsWell s (Drawn id key) = IsHeld s id × IsKeyFor s id key

-- each worker holds a pending order or one that is gone, and no two hold the same
pub record IsPoolSound (s : State) (pool : List Worker) : Type 0 where
  pub each : (worker : ℕ) → HoldsWell s (get_or pool worker Free)
  pub apart : (worker other : ℕ) (id : Id) → holds id (get_or pool worker Free) ≡ true → holds id (get_or pool other Free) ≡ true → worker ≡ other
