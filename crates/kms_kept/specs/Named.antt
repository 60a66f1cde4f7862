-- The ids that active orders name were given.
use Rattle.std.specs.Prelude.{ℕ}
use Rattle.std.specs.List.{AllByRecursion}
use Rattle.kms_world.specs.State.{State}
use Rattle.kms_world.specs.declared.order.OrderRow.{OrderRow}
use Rattle.kms_world.specs.declared.order.OrderState.{OrderState}
use Rattle.kms_world.specs.declared.order.OrderState.TheVariants.{Pending, Active, Error}
use Rattle.kms_kept.specs.Rising.{IsGiven}

abbrev pub NamesGiven : (tag ids : ℕ) → OrderState → Type 0
NamesGiven tag ids Pending = Unit {0}
NamesGiven tag ids (Active secret) = IsGiven tag ids secret
NamesGiven tag ids (Error cause) = Unit {0}

abbrev pub AreNamesGiven : State → Type 0
AreNamesGiven s = AllByRecursion (λ (row : OrderRow). NamesGiven s.tag s.ids row.state) s.orders
