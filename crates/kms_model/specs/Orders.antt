-- The operations on orders of keys.
use Rattle.std.specs.Prelude.{ℕ, Bool, List, [], ◌∷◌, length, filter, codes, Option, Some, None, option_and_then, Result, Ok}
use Rattle.std.specs.Str.{bytes_eq}
use Rattle.kms_page.specs.declared.listing.Listing.TheVariants as listing
use Rattle.kms_page.specs.declared.query.Query.{Query}
use Rattle.kms_policy.specs.Policy.{Row}
use Rattle.kms_secret.specs.Order.{checked_order}
use Rattle.kms_secret.specs.declared.order.NewOrder.{NewOrder}
use Rattle.kms_world.specs.Effect.{OrderPut, Deleted}
use Rattle.kms_world.specs.LookUp.{order_of}
use Rattle.kms_world.specs.State.{State}
use Rattle.kms_world.specs.declared.action.Action.{Action}
use Rattle.kms_world.specs.declared.action.Action.TheVariants.{OrderCreate, OrderDelete, OrderGet, OrderList}
use Rattle.kms_world.specs.declared.answer.Answer.TheVariants.{Empty, Link, Order}
use Rattle.kms_world.specs.declared.answer.Link.TheVariants.{Order as OrderLink}
use Rattle.kms_world.specs.declared.answer.ListRows.TheVariants as rows
use Rattle.kms_world.specs.declared.body.OrderBody.{OrderBody}
use Rattle.kms_world.specs.declared.caller.Caller.{Caller}
use Rattle.kms_world.specs.declared.id.Id.{Id}
use Rattle.kms_world.specs.declared.order.OrderRow.{OrderRow}
use Rattle.kms_world.specs.declared.order.OrderState.TheVariants.{Pending}
use Rattle.kms_world.specs.declared.quota.QuotaKind.TheVariants.{Orders}
use Rattle.kms_world.specs.declared.refusal.Refusal.{Refusal}
use Rattle.kms_world.specs.declared.refusal.Refusal.TheVariants.{IdsSpent}
use Rattle.kms_model.specs.Done.{Done, ◌>>=◌, only_if, there}
use Rattle.kms_model.specs.Lists.{cut, page_done, query_asked}
use Rattle.kms_model.specs.Permission.{granted}
use Rattle.kms_model.specs.Quotas.{within_quota}
use Rattle.kms_model.specs.Secrets.{has_id, next_id}

-- the order under the id in a path
abbrev pub any_order : State → Option Id → Option OrderRow
any_order s id = option_and_then (λ i. order_of i s.orders) id

-- an order as the policy sees it: it has no access list
abbrev pub order_target : OrderRow → Row
order_target row = record { project = row.project; creator = row.creator; acl = None }

-- the order, if there is one, and then if the policy grants the action on it
abbrev pub order_for : Caller → Action → Option OrderRow → Result OrderRow Refusal
order_for caller action found = do
  row ← there found
  may ← granted caller action (Some (order_target row))
  Ok row

-- a new order of the caller, which nobody has carried out yet
abbrev pub new_order : State → Caller → NewOrder → ℕ → OrderRow
new_order s caller new t = record {
  id = next_id s;
  project = caller.project;
  creator = caller.user;
  created = t;
  updated = t;
  algorithm = new.algorithm;
  bit_length = new.bit_length;
  mode = new.mode;
  name = new.name;
  expiration = new.expiration;
  state = Pending;
}

-- the key that a body asks for, of a caller who may order one
abbrev pub order_wanted : Caller → Result OrderBody Refusal → ℕ → Result NewOrder Refusal
order_wanted caller body t = do
  may ← granted caller OrderCreate None
  given ← body
  checked_order given t

-- POST of an order
abbrev pub order_posted : State → Caller → Result OrderBody Refusal → ℕ → Result Done Refusal
order_posted s caller body t = do
  new ← order_wanted caller body t
  room ← within_quota s caller.project Orders
  left ← only_if (has_id s) IdsSpent
  Ok (record { answer = Link 202 OrderLink (next_id s); effects = OrderPut (new_order s caller new t) ∷ [] })

-- GET of an order
abbrev pub order_shown : State → Caller → Option Id → Result Done Refusal
order_shown s caller id = do
  row ← order_for caller OrderGet (any_order s id)
  Ok (record { answer = Order row; effects = [] })

-- DELETE of an order, however far it has come. The secret that was made for it stays.
abbrev pub order_deleted : State → Caller → Option Id → Result Done Refusal
order_deleted s caller id = do
  row ← order_for caller OrderDelete (any_order s id)
  Ok (record { answer = Empty 204; effects = Deleted row.id ∷ [] })

-- the list of orders shows those of the caller's project
abbrev pub shows_order : Caller → OrderRow → Bool
shows_order caller row = bytes_eq row.project caller.project

abbrev pub orders_shown : State → Caller → List OrderRow
orders_shown s caller = filter (shows_order caller) s.orders

-- a page of orders
abbrev pub orders_done : (text : List ℕ) → Query → List OrderRow → Done
orders_done text query shown = page_done (codes "/orders") text (rows.Orders (cut query shown)) (length shown)

-- GET of the list of orders
abbrev pub orders_listed : State → Caller → (text : List ℕ) → Result Done Refusal
orders_listed s caller text = do
  granted ← granted caller OrderList None
  query ← query_asked listing.Orders text
  Ok (orders_done text query (orders_shown s caller))
