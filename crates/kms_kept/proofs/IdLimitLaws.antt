-- No more ids are given than a count has room for.
use Rattle.std.proofs.Common.{◌≡◌, ℕ, ◌<◌, ◌≤◌, ◌^◌, true, List, arith, inl, inr}
use Rattle.std.proofs.lemmas.Bool.{and_parts, or_cases, eqb-true, ltb-true}
use Rattle.kms_world.specs.State.{State}
use Rattle.kms_world.specs.declared.id.Id.{Id}
use Rattle.kms_world.specs.declared.container.ContainerRow.{ContainerRow}
use Rattle.kms_world.specs.declared.order.OrderRow.{OrderRow}
use Rattle.kms_world.specs.Effect.{ids_with}
use Rattle.kms_world.specs.Id.{id_at}
use Rattle.kms_record.specs.declared.change.Change.{Change}
use Rattle.kms_record.specs.declared.change.Change.TheVariants.{KeyAdded, KeyRewrapped, TokenReplaced, KeyDropped, SecretPut, PayloadPut, MetadataPut, ContainerPut, ConsumerAdded, ConsumerDropped, AclPut, AclDropped, OrderPut, QuotaPut, Deleted}
use Rattle.kms_kept.specs.Kept.{Kept, Part, Records, Base, applies, changed, is_new, secret_ids, container_ids, order_ids, is_named_once, may_replace_container, may_replace_order}
use Rattle.kms_kept.specs.Rising.{IsRising}
use Rattle.kms_kept.proofs.BaseLaws.{given_at, none_given, new_given, quota_gives_none}
use Rattle.kms_kept.proofs.RisingLaws.{ids_next}

within : (s : State) (n : ℕ) → n ≡ s.ids → s.ids ≤ 2 ^ 62 → n ≤ 2 ^ 62
within s n same le = omega (arith, same, le)

new_is_low : (s : State) (own : List Id) (count : ℕ) → is_new Records s own count ≡ true → count < 2 ^ 62
new_is_low s own count h = ltb-true count (2 ^ 62) (and_parts _ _ h).1

new_within : (part : Part) (s : State) (own : List Id) (count : ℕ) → is_new part s own count ≡ true → s.ids ≤ 2 ^ 62 → ids_with (id_at s.tag count) s ≤ 2 ^ 62
new_within Records s own count h le =
    let e = eqb-true count s.ids (and_parts _ _ h).0 in
    omega (arith, e, new_is_low s own count h, ids_next s count e)
new_within Base s own count h le = within s (ids_with (id_at s.tag count) s) (none_given s (id_at s.tag count) (new_given s own count h)) le

pub ids_within : (part : Part) (change : Change) (kept : Kept) → IsRising kept.state → kept.state.ids ≤ 2 ^ 62 → applies part change kept ≡ true → (changed change kept).state.ids ≤ 2 ^ 62
ids_within part (SecretPut put) kept r le fits = new_within part kept.state (secret_ids kept.state) put.id fits le
ids_within part (ContainerPut put) kept r le fits =
    let s = kept.state in
    let id = id_at s.tag put.id in
    elim (or_cases (is_new part s (container_ids s) put.id) _ fits) [
      | inl new ↦ new_within part s (container_ids s) put.id new le
      | inr old ↦ within s (ids_with id s) (none_given s id (given_at (λ (x : ContainerRow). x.id) s.tag s.ids id (may_replace_container put) s.containers r.containers old)) le
    ]
ids_within part (OrderPut put) kept r le fits =
    let s = kept.state in
    let id = id_at s.tag put.id in
    elim (or_cases (is_new part s (order_ids s) put.id) _ (and_parts _ (is_named_once s put.id put.state) fits).0) [
      | inl new ↦ new_within part s (order_ids s) put.id new le
      | inr old ↦ within s (ids_with id s) (none_given s id (given_at (λ (x : OrderRow). x.id) s.tag s.ids id (may_replace_order put) s.orders r.orders old)) le
    ]
ids_within part (KeyAdded key) kept r le fits = le
ids_within part (KeyRewrapped key) kept r le fits = le
ids_within part (TokenReplaced put) kept r le fits = le
ids_within part (KeyDropped put) kept r le fits = le
ids_within part (PayloadPut put) kept r le fits = le
ids_within part (MetadataPut put) kept r le fits = le
ids_within part (ConsumerAdded put) kept r le fits = le
ids_within part (ConsumerDropped put) kept r le fits = le
ids_within part (AclPut put) kept r le fits = le
ids_within part (AclDropped target) kept r le fits = le
ids_within part (Deleted id) kept r le fits = le
ids_within part (QuotaPut put) kept r le fits = within kept.state (changed (QuotaPut put) kept).state.ids (quota_gives_none put.project put.limits kept.state) le
