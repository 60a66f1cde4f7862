-- What a change does to the state under a store's tag, where a payload's bytes are the number of its key and, after that,
-- its token.
use Rattle.std.specs.Prelude.{ℕ, ◌∷◌, ℤ, pos, negsuc, List, Option, Some, None, map, option_map}
use Rattle.kms_world.specs.Id.{id_at}
use Rattle.kms_world.specs.declared.id.Id.{Id}
use Rattle.kms_world.specs.Effect.{Effect}
use Rattle.kms_world.specs.Effect as effects
use Rattle.kms_world.specs.declared.container.ContainerRow.{ContainerRow}
use Rattle.kms_world.specs.declared.container.ConsumerRow.{ConsumerRow}
use Rattle.kms_world.specs.declared.order.OrderState.{OrderState}
use Rattle.kms_world.specs.declared.order.OrderState.TheVariants as order_states
use Rattle.kms_world.specs.declared.order.OrderRow.{OrderRow}
use Rattle.kms_world.specs.declared.acl.AclRow.{AclRow}
use Rattle.kms_world.specs.declared.quota.QuotaRow.{QuotaRow}
use Rattle.kms_record.specs.declared.change.Change.{Change}
use Rattle.kms_record.specs.declared.change.Change.TheVariants.{KeyAdded, KeyRewrapped, TokenReplaced, KeyDropped, SecretPut, PayloadPut, MetadataPut, ContainerPut, ConsumerAdded, ConsumerDropped, AclPut, AclDropped, OrderPut, QuotaPut, Deleted}
use Rattle.kms_record.specs.declared.container.ContainerPut.{ContainerPut as Container}
use Rattle.kms_record.specs.declared.consumer.ConsumerAdded.{ConsumerAdded as Consumer}
use Rattle.kms_record.specs.declared.member.Member.{Member}
use Rattle.kms_record.specs.declared.order.OrderPut.{OrderPut as Order}
use Rattle.kms_record.specs.declared.order.OrderPutState.{OrderPutState}
use Rattle.kms_record.specs.declared.order.OrderPutState.TheVariants.{Pending, Active, Error}
use Rattle.kms_record.specs.declared.acl.AclPut.{AclPut as Acl}
use Rattle.kms_record.specs.declared.quota.QuotaLimits.{QuotaLimits}
use Rattle.kms_record.specs.declared.quota.QuotaLimit.{QuotaLimit}
use Rattle.kms_record.specs.declared.quota.QuotaLimit.TheVariants.{Unlimited, AtMost}
use Rattle.kms_record.specs.SecretPut.{row_of}

abbrev pub row_member : ℕ → Member → Option (List ℕ) × Id
row_member tag member = (member.name, id_at tag member.secret)

abbrev pub container_at : ℕ → Container → ContainerRow
container_at tag put = record {
  id = id_at tag put.id;
  project = put.project;
  creator = put.creator;
  created = put.created;
  updated = put.updated;
  name = put.name;
  kind = put.kind;
  secrets = map (row_member tag) put.members;
}

abbrev pub consumer_at : ℕ → Consumer → ConsumerRow
consumer_at tag put = record { container = id_at tag put.container; name = put.name; url = put.url; created = put.created }

abbrev pub order_state_at : ℕ → OrderPutState → OrderState
order_state_at tag Pending = order_states.Pending
order_state_at tag (Active secret) = order_states.Active (id_at tag secret)
order_state_at tag (Error cause) = order_states.Error cause

abbrev pub order_at : ℕ → Order → OrderRow
order_at tag put = record {
  id = id_at tag put.id;
  project = put.project;
  creator = put.creator;
  created = put.created;
  updated = put.updated;
  algorithm = put.algorithm;
  bit_length = put.bit_length;
  mode = put.mode;
  name = put.name;
  expiration = put.expiration;
  state = order_state_at tag put.state;
}

abbrev pub acl_at : ℕ → Acl → AclRow
acl_at tag put = record { target = id_at tag put.target; project_access = put.project_access; users = put.users; created = put.created; updated = put.updated }

-- a limit in a row: -1 where there is none
abbrev pub limit_value : QuotaLimit → ℤ
limit_value Unlimited = negsuc 0
limit_value (AtMost count) = pos count

abbrev pub quota_at : (project : List ℕ) → QuotaLimits → QuotaRow
quota_at project limits = record {
  project = project;
  secrets = option_map limit_value limits.secrets;
  orders = option_map limit_value limits.orders;
  containers = option_map limit_value limits.containers;
  consumers = option_map limit_value limits.consumers;
}

abbrev pub quota_effect : (project : List ℕ) → Option QuotaLimits → Effect
quota_effect project None = effects.QuotaDropped project
quota_effect project (Some limits) = effects.QuotaPut (quota_at project limits)

-- What concerns keys alone does nothing to the state.
abbrev pub effect_of : ℕ → Change → Option Effect
effect_of tag (KeyAdded key) = None
effect_of tag (KeyRewrapped key) = None
effect_of tag (TokenReplaced put) = None
effect_of tag (KeyDropped key) = None
effect_of tag (SecretPut put) = Some (effects.SecretPut (row_of tag put))
effect_of tag (PayloadPut put) = Some (effects.PayloadPut (id_at tag put.secret) put.updated (record { media = put.media; bytes = put.number ∷ put.token }))
effect_of tag (MetadataPut put) = Some (effects.MetadataPut (id_at tag put.secret) put.updated put.pairs)
effect_of tag (ContainerPut put) = Some (effects.ContainerPut (container_at tag put))
effect_of tag (ConsumerAdded put) = Some (effects.ConsumerAdded (consumer_at tag put))
effect_of tag (ConsumerDropped put) = Some (effects.ConsumerDropped (id_at tag put.container) put.name put.url)
effect_of tag (AclPut put) = Some (effects.AclPut (acl_at tag put))
effect_of tag (AclDropped id) = Some (effects.AclDropped (id_at tag id))
effect_of tag (OrderPut put) = Some (effects.OrderPut (order_at tag put))
effect_of tag (QuotaPut put) = Some (quota_effect put.project put.limits)
effect_of tag (Deleted id) = Some (effects.Deleted (id_at tag id))
