-- The law of orders over the states of a run.
use Rattle.std.specs.Prelude.{◌≡◌, map, ℕ, ◌+◌, ◌/◌, ◌<◌, List, [], ◌∷◌, ◌++◌, length, false}
use Rattle.std.specs.List.{Contains}
use Rattle.kms_world.specs.Id.{id_at}
use Rattle.kms_world.specs.State.{State}
use Rattle.kms_world.specs.declared.id.Id.{Id}
use Rattle.kms_world.specs.declared.order.OrderRow.{OrderRow}
use Rattle.kms_world.specs.declared.order.OrderState.TheVariants.{Pending, Active}
use Rattle.kms_model.specs.Secrets.{next_id}
use Rattle.kms_model.specs.Worker.{is_pending, with_order, secret_for}

-- the id is one of those that were given
abbrev pub WasGiven : State → Id → Type 0
WasGiven s id = (count : ℕ) × (count < s.ids) × (id ≡ id_at s.tag count)

-- Orders stand apart, in their ids and in what they name: each has an id that was given and that no other has, and names, if it is
-- done, an id that was given and that no other names.
pub record AreOrdersApart (s : State) : Type 0 where
  pub given : (o : OrderRow) → Contains s.orders o → WasGiven s o.id
  pub one : (o p : OrderRow) → Contains s.orders o → Contains s.orders p → p.id ≡ o.id → p ≡ o
  pub named : (o : OrderRow) (id : Id) → Contains s.orders o → o.state ≡ Active id → WasGiven s id
  pub own : (o p : OrderRow) (id : Id) → Contains s.orders o → Contains s.orders p → o.state ≡ Active id → p.state ≡ Active id → p.id ≡ o.id

-- an order of an earlier state and the same one in a later state
pub record SameOrder (earlier later : State) (o p : OrderRow) : Type 0 where
  pub there : Contains earlier.orders o
  pub still : Contains later.orders p
  pub same : p.id ≡ o.id

-- one that is done or has failed stays so; no two orders name the same secret
pub record LaterOrders (earlier later : State) : Type 0 where
  pub settled : (o p : OrderRow) → SameOrder earlier later o p → is_pending o.state ≡ false → p.state ≡ o.state
  pub own : (o p : OrderRow) (id : Id) → Contains earlier.orders o → Contains later.orders p
      → o.state ≡ Active id → p.state ≡ Active id → p.id ≡ o.id

-- the one secret that came with an order that is done: under the next id, with the order's attributes and a key of its size
pub record MadeFor (before after : State) (o p : OrderRow) (id : Id) : Type 0 where
  pub is_next : id ≡ next_id before
  pub key : List ℕ
  pub size : length key ≡ o.bit_length / 8
  pub one_secret : after.secrets ≡ before.secrets ++ secret_for before o key p.updated ∷ []
  pub one_id : after.ids ≡ before.ids + 1
  pub one_order : after.orders ≡ map (with_order o.id (Active id) p.updated) before.orders
  pub others : after ≡ record before { ids = after.ids; secrets = after.secrets; orders = after.orders }

-- an order that is new in the next state is pending, and one that is done has its one secret with it
pub record NextOrders (before after : State) : Type 0 where
  pub new : (p : OrderRow) → Contains after.orders p → ((o : OrderRow) → Contains before.orders o → p.id ≡ o.id → ⊥) → p.state ≡ Pending
  pub made : (o p : OrderRow) (id : Id) → SameOrder before after o p → o.state ≡ Pending → p.state ≡ Active id → MadeFor before after o p id

-- a state against all later ones
abbrev pub BeforeAll : State → List State → Type 0
BeforeAll s [] = Unit {0}
BeforeAll s (later ∷ states) = LaterOrders s later × BeforeAll s states

-- a state and those that follow
abbrev pub Orderly : State → List State → Type 0
Orderly s [] = LaterOrders s s
Orderly s (next ∷ states) = LaterOrders s s × NextOrders s next × BeforeAll s (next ∷ states) × Orderly next states
