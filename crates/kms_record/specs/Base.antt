-- The rows of a snapshot as changes.
use Rattle.std.specs.Prelude.{ℕ, ◌%◌, ◌^◌, ℤ, pos, negsuc, List, [], Option, Some, None, map, option_map}
use Rattle.kms_world.specs.declared.id.Id.{Id}
use Rattle.kms_world.specs.declared.payload.Payload.{Payload as Sealed}
use Rattle.kms_world.specs.declared.secret.SecretRow.{SecretRow}
use Rattle.kms_world.specs.declared.container.ContainerRow.{ContainerRow}
use Rattle.kms_world.specs.declared.container.ConsumerRow.{ConsumerRow}
use Rattle.kms_world.specs.declared.order.OrderRow.{OrderRow}
use Rattle.kms_world.specs.declared.order.OrderState.{OrderState}
use Rattle.kms_world.specs.declared.order.OrderState.TheVariants as order_states
use Rattle.kms_world.specs.declared.acl.AclRow.{AclRow}
use Rattle.kms_world.specs.declared.quota.QuotaRow.{QuotaRow}
use Rattle.kms_record.specs.declared.base.BaseChange.{BaseChange}
use Rattle.kms_record.specs.declared.base.BaseChange.TheVariants.{Key, Secret, Payload, Metadata, Container, Consumer, Acl, Order, Quota}
use Rattle.kms_record.specs.declared.change.Change.{Change}
use Rattle.kms_record.specs.declared.change.Change.TheVariants as changes
use Rattle.kms_record.specs.declared.member.Member.{Member}
use Rattle.kms_record.specs.declared.payload.PayloadPut.{PayloadPut}
use Rattle.kms_record.specs.declared.metadata.MetadataPut.{MetadataPut}
use Rattle.kms_record.specs.declared.container.ContainerPut.{ContainerPut}
use Rattle.kms_record.specs.declared.consumer.ConsumerAdded.{ConsumerAdded}
use Rattle.kms_record.specs.declared.acl.AclPut.{AclPut}
use Rattle.kms_record.specs.declared.order.OrderPut.{OrderPut}
use Rattle.kms_record.specs.declared.order.OrderPutState.{OrderPutState}
use Rattle.kms_record.specs.declared.order.OrderPutState.TheVariants as put_states
use Rattle.kms_record.specs.declared.quota.QuotaPut.{QuotaPut}
use Rattle.kms_record.specs.declared.quota.QuotaLimits.{QuotaLimits}
use Rattle.kms_record.specs.declared.quota.QuotaLimit.{QuotaLimit}
use Rattle.kms_record.specs.declared.quota.QuotaLimit.TheVariants.{Unlimited, AtMost}
use Rattle.kms_record.specs.SecretPut.{put_of}
use Rattle.kms_record.specs.Grammar.{change_bytes, IsChange, IsChangeInRange}

-- the count of an id, in its last 62 bits
abbrev pub count_of : Id → ℕ
count_of id = id.0 % 2 ^ 62

abbrev pub payload_put_of : SecretRow → (number : ℕ) → Sealed → PayloadPut
payload_put_of row number payload = record { secret = count_of row.id; updated = row.updated; media = payload.media; number = number; token = payload.bytes }

abbrev pub metadata_put_of : SecretRow → MetadataPut
metadata_put_of row = record { secret = count_of row.id; updated = row.updated; pairs = row.metadata }

abbrev pub member_of : Option (List ℕ) × Id → Member
member_of member = record { name = member.0; secret = count_of member.1 }

abbrev pub container_put_of : ContainerRow → ContainerPut
container_put_of row = record {
  id = count_of row.id;
  project = row.project;
  creator = row.creator;
  created = row.created;
  updated = row.updated;
  name = row.name;
  kind = row.kind;
  members = map member_of row.secrets;
}

abbrev pub consumer_added_of : ConsumerRow → ConsumerAdded
consumer_added_of row = record { container = count_of row.container; name = row.name; url = row.url; created = row.created }

abbrev pub acl_put_of : AclRow → AclPut
acl_put_of row = record { target = count_of row.target; project_access = row.project_access; created = row.created; updated = row.updated; users = row.users }

abbrev pub put_state : OrderState → OrderPutState
put_state order_states.Pending = put_states.Pending
put_state (order_states.Active secret) = put_states.Active (count_of secret)
put_state (order_states.Error cause) = put_states.Error cause

abbrev pub order_put_of : OrderRow → OrderPut
order_put_of row = record {
  id = count_of row.id;
  project = row.project;
  creator = row.creator;
  created = row.created;
  updated = row.updated;
  algorithm = row.algorithm;
  bit_length = row.bit_length;
  mode = row.mode;
  name = row.name;
  expiration = row.expiration;
  state = put_state row.state;
}

-- a limit by a row's value, of which -1 says that there is none
abbrev pub limit_of : ℤ → QuotaLimit
limit_of (pos count) = AtMost count
limit_of (negsuc n) = Unlimited

abbrev pub quota_limits_of : QuotaRow → QuotaLimits
quota_limits_of row = record {
  secrets = option_map limit_of row.secrets;
  orders = option_map limit_of row.orders;
  containers = option_map limit_of row.containers;
  consumers = option_map limit_of row.consumers;
}

abbrev pub quota_put_of : QuotaRow → QuotaPut
quota_put_of row = record { project = row.project; limits = Some (quota_limits_of row) }

-- the change that puts this of the row; None where a secret has no payload
abbrev pub as_change : BaseChange → Option Change
as_change (Key key) = Some (changes.KeyAdded key.now)
as_change (Secret row) = Some (changes.SecretPut (put_of (count_of row.now.id) row.now))
as_change (Payload row number) = option_map (λ payload. changes.PayloadPut (payload_put_of row.now number payload)) row.now.payload
as_change (Metadata row) = Some (changes.MetadataPut (metadata_put_of row.now))
as_change (Container row) = Some (changes.ContainerPut (container_put_of row.now))
as_change (Consumer row) = Some (changes.ConsumerAdded (consumer_added_of row.now))
as_change (Acl row) = Some (changes.AclPut (acl_put_of row.now))
as_change (Order row) = Some (changes.OrderPut (order_put_of row.now))
as_change (Quota row) = Some (changes.QuotaPut (quota_put_of row.now))

abbrev pub bytes_of : Option Change → List ℕ
bytes_of None = []
bytes_of (Some change) = change_bytes change

abbrev pub IsPutInRange : Option Change → Type 0
IsPutInRange None = ⊥
IsPutInRange (Some change) = IsChangeInRange change

abbrev pub IsPut : Option Change → Type 0
IsPut None = ⊥
IsPut (Some change) = IsChange change

-- its one spelling
abbrev pub base_bytes : BaseChange → List ℕ
base_bytes change = bytes_of (as_change change)

-- there is such a change, and its numbers and lengths are in their ranges
abbrev pub IsBaseInRange : BaseChange → Type 0
IsBaseInRange change = IsPutInRange (as_change change)

-- there is such a change, and it is one of the grammar
abbrev pub IsBase : BaseChange → Type 0
IsBase change = IsPut (as_change change)
