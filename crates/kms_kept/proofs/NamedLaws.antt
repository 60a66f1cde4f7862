-- The ids that active orders name were given, whatever change applies.
use Rattle.std.proofs.Common.{◌≡◌, ℕ, ◌<◌, ◌≤◌, true, not, List, [], Option, Some, None, refl, arith, inl, inr}
use Rattle.std.specs.Prelude.{◌==◌, nat_lt}
use Rattle.std.specs.List.{AllByRecursion}
use Rattle.std.proofs.lemmas.Bool.{and_parts, or_cases, eqb-true, ltb-true}
use Rattle.kms_world.specs.Effect.{ids_with, after_effect}
use Rattle.kms_world.specs.Id.{id_at, is_id}
use Rattle.kms_world.specs.State.{State}
use Rattle.kms_world.specs.declared.order.OrderRow.{OrderRow}
use Rattle.kms_world.specs.declared.order.OrderState.{OrderState}
use Rattle.kms_world.specs.declared.order.OrderState.TheVariants as states
use Rattle.kms_record.specs.declared.change.Change.{Change}
use Rattle.kms_record.specs.declared.change.Change.TheVariants.{KeyAdded, KeyRewrapped, TokenReplaced, KeyDropped, SecretPut, PayloadPut, MetadataPut, ContainerPut, ConsumerAdded, ConsumerDropped, AclPut, AclDropped, OrderPut, QuotaPut, Deleted}
use Rattle.kms_record.specs.declared.order.OrderPut.{OrderPut as Order}
use Rattle.kms_record.specs.declared.order.OrderPutState.{OrderPutState}
use Rattle.kms_record.specs.declared.order.OrderPutState.TheVariants.{Pending, Active, Error}
use Rattle.kms_record.specs.declared.quota.QuotaLimits.{QuotaLimits}
use Rattle.kms_record.specs.ChangeEffect.{order_at, order_state_at, quota_effect}
use Rattle.kms_kept.specs.Kept.{Kept, Part, applies, changed, is_new, is_named_once, may_replace_order, order_ids}
use Rattle.kms_kept.specs.Named.{NamesGiven, AreNamesGiven}
use Rattle.kms_kept.specs.Rising.{Rises, IsRising}
use Rattle.kms_kept.proofs.BaseLaws.{given_at}
use Rattle.kms_kept.proofs.CountLaws.{less_count}
use Rattle.kms_kept.proofs.JoinedLaws.{all_put}
use Rattle.kms_kept.proofs.KeptLists.{all_filter, all_to}
use Rattle.kms_kept.proofs.RisingLaws.{given_later, ids_more, new_fits}

names_later : (tag a b : ℕ) → a ≤ b → (state : OrderState) → NamesGiven tag a state → NamesGiven tag b state
names_later tag a b le states.Pending named = tt
names_later tag a b le (states.Active secret) named = given_later tag a b secret le named
names_later tag a b le (states.Error cause) named = tt

all_later : (s : State) (n : ℕ) → s.ids ≤ n → AreNamesGiven s → AllByRecursion (λ (row : OrderRow). NamesGiven s.tag n row.state) s.orders
all_later s n le named = all_to (λ (row : OrderRow). NamesGiven s.tag s.ids row.state) (λ (row : OrderRow). NamesGiven s.tag n row.state) (λ row h. names_later s.tag s.ids n le row.state h) s.orders named

-- the id of an order that is put is given then
order_given : (part : Part) (s : State) (put : Order) → Rises s.tag s.ids (order_ids s) → applies part (OrderPut put) (let kept : Kept = record { state = s; keys = [] } in kept) ≡ true → put.id < ids_with (id_at s.tag put.id) s
order_given part s put r fits = elim (or_cases (is_new part s (order_ids s) put.id) _ (and_parts _ (is_named_once s put.id put.state) fits).0) [
  | inl new ↦ (new_fits part s (order_ids s) put.id new r).below
  | inr old ↦
      let lt = less_count s.tag put.id s.ids (given_at (λ (x : OrderRow). x.id) s.tag s.ids (id_at s.tag put.id) (may_replace_order put) s.orders r old) in
      omega (arith, lt, ids_more (id_at s.tag put.id) s)
]

put_named : (s : State) (order n : ℕ) → s.ids ≤ n → order < n → (state : OrderPutState) → is_named_once s order state ≡ true → NamesGiven s.tag n (order_state_at s.tag state)
put_named s order n le given Pending h = tt
put_named s order n le given (Active secret) h =
    let lt : secret < n = elim (or_cases (nat_lt secret s.ids) (secret == order) (and_parts _ _ h).0) [
      | inl below ↦ omega (arith, ltb-true secret s.ids below, le)
      | inr same ↦ omega (arith, eqb-true secret order same, given)
    ] in
    record { count = secret; below = lt; is = refl }
put_named s order n le given (Error cause) h = tt

quota_named : (project : List ℕ) (limits : Option QuotaLimits) (s : State) → AreNamesGiven s → AreNamesGiven (after_effect (quota_effect project limits) s)
quota_named project None s named = named
quota_named project (Some limits) s named = named

pub change_named : (part : Part) (change : Change) (kept : Kept) → IsRising kept.state → AreNamesGiven kept.state → applies part change kept ≡ true → AreNamesGiven (changed change kept).state
change_named part (KeyAdded key) kept r named fits = named
change_named part (KeyRewrapped key) kept r named fits = named
change_named part (TokenReplaced put) kept r named fits = named
change_named part (KeyDropped put) kept r named fits = named
change_named part (SecretPut put) kept r named fits = all_later kept.state (ids_with (id_at kept.state.tag put.id) kept.state) (ids_more (id_at kept.state.tag put.id) kept.state) named
change_named part (PayloadPut put) kept r named fits = named
change_named part (MetadataPut put) kept r named fits = named
change_named part (ContainerPut put) kept r named fits = all_later kept.state (ids_with (id_at kept.state.tag put.id) kept.state) (ids_more (id_at kept.state.tag put.id) kept.state) named
change_named part (ConsumerAdded put) kept r named fits = named
change_named part (ConsumerDropped put) kept r named fits = named
change_named part (AclPut put) kept r named fits = named
change_named part (AclDropped id) kept r named fits = named
change_named part (OrderPut put) kept r named fits =
    let s = kept.state in
    let id = id_at s.tag put.id in
    let n = ids_with id s in
    all_put (λ (row : OrderRow). NamesGiven s.tag n row.state) (λ row. is_id id row.id) (order_at s.tag put) s.orders
    (put_named s put.id n (ids_more id s) (order_given part s put r.orders fits) put.state (and_parts _ _ fits).1) (all_later s n (ids_more id s) named)
change_named part (QuotaPut put) kept r named fits = quota_named put.project put.limits kept.state named
change_named part (Deleted id) kept r named fits = all_filter (λ (row : OrderRow). NamesGiven kept.state.tag kept.state.ids row.state) (λ row. not (is_id (id_at kept.state.tag id) row.id)) kept.state.orders named
