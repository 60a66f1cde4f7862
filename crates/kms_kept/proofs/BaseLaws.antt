-- The changes of a snapshot give no ids.
use Rattle.std.proofs.Common.{◌≡◌, ℕ, ◌<◌, Bool, true, ltb, List, [], ◌∷◌, map, Option, Some, None, refl, arith, inl, inr}
use Rattle.std.specs.Prelude.{find}
use Rattle.std.specs.List.{list_all}
use Rattle.std.proofs.lemmas.Bool.{cases_Bool, and_parts, or_cases, eqb-true, ne_eqb, ltb-true}
use Rattle.kms_world.specs.Id.{id_number}
use Rattle.kms_world.specs.State.{State}
use Rattle.kms_world.specs.declared.id.Id.{Id}
use Rattle.kms_world.specs.declared.container.ContainerRow.{ContainerRow}
use Rattle.kms_world.specs.declared.order.OrderRow.{OrderRow}
use Rattle.kms_world.specs.Id.{is_id}
use Rattle.kms_world.specs.Effect.{ids_with, after_effect}
use Rattle.kms_record.specs.declared.change.Change.{Change}
use Rattle.kms_record.specs.declared.change.Change.TheVariants.{KeyAdded, KeyRewrapped, TokenReplaced, KeyDropped, SecretPut, PayloadPut, MetadataPut, ContainerPut, ConsumerAdded, ConsumerDropped, AclPut, AclDropped, OrderPut, QuotaPut, Deleted}
use Rattle.kms_world.specs.Id.{id_at}
use Rattle.kms_kept.specs.Kept.{Kept, Base, applies, changed, has, is_new, secret_ids, container_ids, order_ids, is_named_once, may_replace_container, may_replace_order}
use Rattle.kms_record.specs.ChangeEffect.{quota_effect}
use Rattle.kms_record.specs.declared.quota.QuotaLimits.{QuotaLimits}
use Rattle.kms_kept.specs.Rising.{Rises, IsRising}
use Rattle.kms_kept.proofs.RisingLaws.{given_below}

module _ {X : Type 0} (id_of : X → Id) where
  pub given_at : (tag n : ℕ) (id : Id) (p : X → Bool) (rows : List X) → Rises tag n (map id_of rows) → has (find (λ x. is_id id (id_of x)) rows) p ≡ true → id.0 < id_number tag n
  given_at tag n id p [] r h = absurd cc
  given_at tag n id p (x ∷ xs) r h = elim (cases_Bool (is_id id (id_of x))) [
    | inl t ↦ omega (arith, given_below tag n (id_of x) r.0, eqb-true (id_of x).0 id.0 t)
    | inr f ↦ given_at tag n id p xs r.2 (rw f at h)
  ]

-- ---- a snapshot gives no ids

pub none_given : (s : State) (id : Id) → id.0 < id_number s.tag s.ids → ids_with id s ≡ s.ids
none_given s id lt = rw (ne_eqb id.0 (id_number s.tag s.ids) (λ e. absurd (omega (arith, e, lt)))) refl

pub new_given : (s : State) (own : List Id) (count : ℕ) → is_new Base s own count ≡ true → id_number s.tag count < id_number s.tag s.ids
new_given s own count h =
    let front : (ltb count s.ids ≡ true) × (list_all (λ (other : Id). ltb other.0 (id_number s.tag count)) own ≡ true) = and_parts _ _ (and_parts _ _ h).0 in
    omega (arith, ltb-true count s.ids front.0)

pub quota_gives_none : (project : List ℕ) (limits : Option QuotaLimits) (s : State) → (after_effect (quota_effect project limits) s).ids ≡ s.ids
quota_gives_none project None s = refl
quota_gives_none project (Some limits) s = refl

pub base_gives_none : (change : Change) (kept : Kept) → IsRising kept.state → applies Base change kept ≡ true → (changed change kept).state.ids ≡ kept.state.ids
base_gives_none (KeyAdded key) kept r fits = refl
base_gives_none (KeyRewrapped key) kept r fits = refl
base_gives_none (TokenReplaced put) kept r fits = refl
base_gives_none (KeyDropped put) kept r fits = refl
base_gives_none (SecretPut put) kept r fits = none_given kept.state (id_at kept.state.tag put.id) (new_given kept.state (secret_ids kept.state) put.id fits)
base_gives_none (PayloadPut put) kept r fits = refl
base_gives_none (MetadataPut put) kept r fits = refl
base_gives_none (ContainerPut put) kept r fits =
    let s = kept.state in
    elim (or_cases (is_new Base s (container_ids s) put.id) _ fits) [
      | inl new ↦ none_given s (id_at s.tag put.id) (new_given s (container_ids s) put.id new)
      | inr old ↦ none_given s (id_at s.tag put.id) (given_at (λ (x : ContainerRow). x.id) s.tag s.ids (id_at s.tag put.id) (may_replace_container put) s.containers r.containers old)
    ]
base_gives_none (ConsumerAdded put) kept r fits = refl
base_gives_none (ConsumerDropped put) kept r fits = refl
base_gives_none (AclPut put) kept r fits = refl
base_gives_none (AclDropped id) kept r fits = refl
base_gives_none (OrderPut put) kept r fits =
    let s = kept.state in
    elim (or_cases (is_new Base s (order_ids s) put.id) _ (and_parts _ (is_named_once s put.id put.state) fits).0) [
      | inl new ↦ none_given s (id_at s.tag put.id) (new_given s (order_ids s) put.id new)
      | inr old ↦ none_given s (id_at s.tag put.id) (given_at (λ (x : OrderRow). x.id) s.tag s.ids (id_at s.tag put.id) (may_replace_order put) s.orders r.orders old)
    ]
base_gives_none (QuotaPut put) kept r fits = quota_gives_none put.project put.limits kept.state
base_gives_none (Deleted id) kept r fits = refl
