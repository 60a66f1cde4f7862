-- What can happen to the state of the key manager, and what the state is afterwards. This page is the whole meaning of
-- change: an operation has a list of these effects, and a change in a record has one of them or none.
use Rattle.std.specs.Prelude.{ℕ, ◌+◌, ◌&&◌, Bool, not, List, [], ◌∷◌, ◌++◌, Option, Some, None, map, filter, if◌then◌else◌}
use Rattle.std.specs.Str.{bytes_eq}
use Rattle.kms_world.specs.Id.{id_at, is_id}
use Rattle.kms_world.specs.State.{State}
use Rattle.kms_world.specs.declared.id.Id.{Id}
use Rattle.kms_world.specs.declared.payload.Payload.{Payload}
use Rattle.kms_world.specs.declared.secret.SecretRow.{SecretRow}
use Rattle.kms_world.specs.declared.container.ContainerRow.{ContainerRow}
use Rattle.kms_world.specs.declared.container.ConsumerRow.{ConsumerRow}
use Rattle.kms_world.specs.declared.order.OrderRow.{OrderRow}
use Rattle.kms_world.specs.declared.acl.AclRow.{AclRow}
use Rattle.kms_world.specs.declared.quota.QuotaRow.{QuotaRow}

pub data Effect : Type 0 where
  SecretPut : SecretRow → Effect  -- a new secret
  PayloadPut : (secret : Id) → (updated : ℕ) → Payload → Effect
  MetadataPut : (secret : Id) → (updated : ℕ) → List (List ℕ × List ℕ) → Effect  -- all pairs
  ContainerPut : ContainerRow → Effect  -- a new container, or in the place of the one with this id
  ConsumerAdded : ConsumerRow → Effect
  ConsumerDropped : (container : Id) → (name url : List ℕ) → Effect
  AclPut : AclRow → Effect  -- a new access list, or in the place of its target's
  AclDropped : (target : Id) → Effect
  OrderPut : OrderRow → Effect  -- a new order, or in the place of the one with this id
  QuotaPut : QuotaRow → Effect  -- a new quota row, or in the place of its project's
  QuotaDropped : (project : List ℕ) → Effect
  Deleted : Id → Effect  -- a secret, container or order goes, with all that hangs on it

-- the rows, with one in the place of the first that passes the test, or else last
abbrev pub put_row : {X : Type 0} → (X → Bool) → X → List X → List X
put_row test row [] = row ∷ []
put_row test row (x ∷ xs) = if test x then row ∷ xs else x ∷ put_row test row xs

-- the rows, with those that pass the test changed
abbrev pub change_rows : {X : Type 0} → (X → Bool) → (X → X) → List X → List X
change_rows test f rows = map (λ x. if test x then f x else x) rows

-- the rows that don't pass the test
abbrev pub drop_rows : {X : Type 0} → (X → Bool) → List X → List X
drop_rows test rows = filter (λ x. not (test x)) rows

abbrev pub is_consumer : Id → (name url : List ℕ) → ConsumerRow → Bool
is_consumer id name url row = is_id id row.container && bytes_eq name row.name && bytes_eq url row.url

abbrev pub with_payload : (updated : ℕ) → Payload → SecretRow → SecretRow
with_payload updated payload row = record row { updated = updated; payload = Some payload }

abbrev pub with_metadata : (updated : ℕ) → List (List ℕ × List ℕ) → SecretRow → SecretRow
with_metadata updated pairs row = record row { updated = updated; metadata = pairs }

-- how many ids are given where a row has this id: one more where it is the next, which so is given
abbrev pub ids_with : Id → State → ℕ
ids_with id s = if is_id (id_at s.tag s.ids) id then s.ids + 1 else s.ids

abbrev pub after_effect : Effect → State → State
after_effect (SecretPut row) s = record s { ids = ids_with row.id s; secrets = s.secrets ++ row ∷ [] }
after_effect (PayloadPut id updated payload) s = record s { secrets = change_rows (λ r. is_id id r.id) (with_payload updated payload) s.secrets }
after_effect (MetadataPut id updated pairs) s = record s { secrets = change_rows (λ r. is_id id r.id) (with_metadata updated pairs) s.secrets }
after_effect (ContainerPut row) s = record s { ids = ids_with row.id s; containers = put_row (λ r. is_id row.id r.id) row s.containers }
after_effect (ConsumerAdded row) s = record s { consumers = s.consumers ++ row ∷ [] }
after_effect (ConsumerDropped id name url) s = record s { consumers = drop_rows (is_consumer id name url) s.consumers }
after_effect (AclPut row) s = record s { acls = put_row (λ r. is_id row.target r.target) row s.acls }
after_effect (AclDropped id) s = record s { acls = drop_rows (λ r. is_id id r.target) s.acls }
after_effect (OrderPut row) s = record s { ids = ids_with row.id s; orders = put_row (λ r. is_id row.id r.id) row s.orders }
after_effect (QuotaPut row) s = record s { quotas = put_row (λ r. bytes_eq row.project r.project) row s.quotas }
after_effect (QuotaDropped project) s = record s { quotas = drop_rows (λ r. bytes_eq project r.project) s.quotas }
after_effect (Deleted id) s = record s {
  secrets = drop_rows (λ r. is_id id r.id) s.secrets;
  containers = drop_rows (λ r. is_id id r.id) s.containers;
  consumers = drop_rows (λ r. is_id id r.container) s.consumers;
  orders = drop_rows (λ r. is_id id r.id) s.orders;
  acls = drop_rows (λ r. is_id id r.target) s.acls;
}

-- in their order
abbrev pub after_effects : List Effect → State → State
after_effects [] s = s
after_effects (effect ∷ effects) s = after_effects effects (after_effect effect s)

abbrev pub after_optional : Option Effect → State → State
after_optional None s = s
after_optional (Some effect) s = after_effect effect s
