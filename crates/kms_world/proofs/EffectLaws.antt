-- What every effect leaves.
use Rattle.std.proofs.Common.{◌≡◌, ℕ, ◌≤◌, ◌+◌, Bool, true, false, if◌then◌else◌, refl, arith}
use Rattle.kms_world.specs.State.{State}
use Rattle.kms_world.specs.Id.{is_id, id_at}
use Rattle.kms_world.specs.Effect.{Effect, after_effect, SecretPut, PayloadPut, MetadataPut, ContainerPut, ConsumerAdded, ConsumerDropped, AclPut, AclDropped, OrderPut, QuotaPut, QuotaDropped, Deleted}

one_more_at_most : (b : Bool) (n : ℕ) → (n ≤ (if b then n + 1 else n)) × ((if b then n + 1 else n) ≤ n + 1)
one_more_at_most true n = (omega arith, omega arith)
one_more_at_most false n = (omega arith, omega arith)

as_before : (n : ℕ) → (n ≤ n) × (n ≤ n + 1)
as_before n = (omega arith, omega arith)

pub ids_given : (effect : Effect) (s : State) → (s.ids ≤ (after_effect effect s).ids) × ((after_effect effect s).ids ≤ s.ids + 1)
ids_given (SecretPut row) s = one_more_at_most (is_id (id_at s.tag s.ids) row.id) s.ids
ids_given (PayloadPut id updated payload) s = as_before s.ids
ids_given (MetadataPut id updated pairs) s = as_before s.ids
ids_given (ContainerPut row) s = one_more_at_most (is_id (id_at s.tag s.ids) row.id) s.ids
ids_given (ConsumerAdded row) s = as_before s.ids
ids_given (ConsumerDropped id name url) s = as_before s.ids
ids_given (AclPut row) s = as_before s.ids
ids_given (AclDropped id) s = as_before s.ids
ids_given (OrderPut row) s = one_more_at_most (is_id (id_at s.tag s.ids) row.id) s.ids
ids_given (QuotaPut row) s = as_before s.ids
ids_given (QuotaDropped project) s = as_before s.ids
ids_given (Deleted id) s = as_before s.ids

pub tag_kept : (effect : Effect) (s : State) → (after_effect effect s).tag ≡ s.tag
tag_kept (SecretPut row) s = refl
tag_kept (PayloadPut id updated payload) s = refl
tag_kept (MetadataPut id updated pairs) s = refl
tag_kept (ContainerPut row) s = refl
tag_kept (ConsumerAdded row) s = refl
tag_kept (ConsumerDropped id name url) s = refl
tag_kept (AclPut row) s = refl
tag_kept (AclDropped id) s = refl
tag_kept (OrderPut row) s = refl
tag_kept (QuotaPut row) s = refl
tag_kept (QuotaDropped project) s = refl
tag_kept (Deleted id) s = refl
