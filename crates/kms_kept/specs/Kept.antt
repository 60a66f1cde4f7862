-- What is kept, and what a change does to it where it applies.
use Rattle.std.specs.Prelude.{ℕ, ◌^◌, ◌==◌, ◌&&◌, ◌||◌, Bool, true, false, not, List, [], ◌∷◌, Option, Some, None, map, find, if◌then◌else◌, nat_lt, is_some, is_none, option_map, option_and_then}
use Rattle.std.specs.List.{list_any, list_all}
use Rattle.std.specs.Str.{bytes_eq}
use Rattle.kms_world.specs.Id.{id_number, id_at, is_id}
use Rattle.kms_world.specs.Effect.{is_consumer, change_rows, drop_rows, after_optional}
use Rattle.kms_world.specs.LookUp.{secret_of, container_of, order_of}
use Rattle.kms_world.specs.Pairs.{is_below}
use Rattle.kms_world.specs.State.{State, empty_state}
use Rattle.kms_world.specs.declared.id.Id.{Id}
use Rattle.kms_world.specs.declared.payload.Payload.{Payload}
use Rattle.kms_world.specs.declared.secret.SecretRow.{SecretRow}
use Rattle.kms_world.specs.declared.container.ContainerRow.{ContainerRow}
use Rattle.kms_world.specs.declared.order.OrderRow.{OrderRow}
use Rattle.kms_world.specs.declared.order.OrderState.{OrderState}
use Rattle.kms_world.specs.declared.order.OrderState.TheVariants as order_states
use Rattle.kms_record.specs.declared.change.Change.{Change}
use Rattle.kms_record.specs.declared.change.Change.TheVariants.{KeyAdded, KeyRewrapped, TokenReplaced, KeyDropped, SecretPut, PayloadPut, MetadataPut, ContainerPut, ConsumerAdded, ConsumerDropped, AclPut, AclDropped, OrderPut, QuotaPut, Deleted}
use Rattle.kms_record.specs.declared.key.WrappedKey.{WrappedKey}
use Rattle.kms_record.specs.declared.container.ContainerPut.{ContainerPut as Container}
use Rattle.kms_record.specs.declared.order.OrderPut.{OrderPut as Order}
use Rattle.kms_record.specs.declared.order.OrderPutState.{OrderPutState}
use Rattle.kms_record.specs.declared.order.OrderPutState.TheVariants as put_states
use Rattle.kms_record.specs.declared.quota.QuotaLimits.{QuotaLimits}
use Rattle.kms_record.specs.ChangeEffect.{effect_of}

-- The state, where each payload's bytes are the number of its key and, after that, its token; and the wrapped keys, by
-- project and number.
pub record Kept : Type 0 where
  pub state : State
  pub keys : List WrappedKey

-- where changes stand: in records, or in a snapshot
pub data Part : Type 0 where
  Records : Part
  Base : Part

-- there is a value, and it passes the test
abbrev pub has : {X : Type 0} → Option X → (X → Bool) → Bool
has None test = false
has (Some x) test = test x

-- equal texts, or none and none
abbrev pub same_text : Option (List ℕ) → Option (List ℕ) → Bool
same_text None None = true
same_text None (Some b) = false
same_text (Some a) None = false
same_text (Some a) (Some b) = bytes_eq a b

abbrev pub same_number : Option ℕ → Option ℕ → Bool
same_number None None = true
same_number None (Some b) = false
same_number (Some a) None = false
same_number (Some a) (Some b) = a == b

-- ---- look-ups

abbrev pub is_key : (project : List ℕ) → (number : ℕ) → WrappedKey → Bool
is_key project number key = bytes_eq project key.project && (number == key.number)

abbrev pub key_of : (project : List ℕ) → (number : ℕ) → List WrappedKey → Option WrappedKey
key_of project number keys = find (is_key project number) keys

-- the first comes before the second by project and number
abbrev pub is_key_below : WrappedKey → WrappedKey → Bool
is_key_below a b = is_below a.project b.project || (bytes_eq a.project b.project && nat_lt a.number b.number)

-- a secret, container or order has this id
abbrev pub is_taken : State → Id → Bool
is_taken s id = is_some (secret_of id s.secrets) || is_some (container_of id s.containers) || is_some (order_of id s.orders)

abbrev pub begins_with : (number : ℕ) → List ℕ → Bool
begins_with number [] = false
begins_with number (first ∷ token) = first == number

-- the token of the secret is under this key
abbrev pub is_under : (project : List ℕ) → (number : ℕ) → SecretRow → Bool
is_under project number row = bytes_eq project row.project && has row.payload (λ (p : Payload). begins_with number p.bytes)

-- ---- whether a change applies

-- The id of a new row. In records it is the count of ids given. In a snapshot it is below that, greater than every
-- earlier id of its own kind of row, and no row of another kind has it.
abbrev pub is_new : Part → State → (own : List Id) → (count : ℕ) → Bool
is_new Records s own count = (count == s.ids) && nat_lt count (2 ^ 62)
is_new Base s own count = nat_lt count s.ids && list_all (λ (i : Id). nat_lt i.0 (id_number s.tag count)) own && not (is_taken s (id_at s.tag count))

abbrev pub secret_ids : State → List Id
secret_ids s = map (λ r. r.id) s.secrets

abbrev pub container_ids : State → List Id
container_ids s = map (λ r. r.id) s.containers

abbrev pub order_ids : State → List Id
order_ids s = map (λ r. r.id) s.orders

-- a container of the same project, creator and created
abbrev pub may_replace_container : Container → ContainerRow → Bool
may_replace_container put row = bytes_eq put.project row.project && bytes_eq put.creator row.creator && (put.created == row.created)

abbrev pub is_pending : OrderState → Bool
is_pending order_states.Pending = true
is_pending (order_states.Active id) = false
is_pending (order_states.Error cause) = false

-- a pending order that is equal in all but updated and state
abbrev pub may_replace_order : Order → OrderRow → Bool
may_replace_order put row =
    is_pending row.state && bytes_eq put.project row.project && bytes_eq put.creator row.creator && (put.created == row.created)
    && bytes_eq put.algorithm row.algorithm && (put.bit_length == row.bit_length) && same_text put.mode row.mode
    && same_text put.name row.name && same_number put.expiration row.expiration

abbrev pub names_id : Id → OrderState → Bool
names_id id order_states.Pending = false
names_id id (order_states.Active other) = is_id id other
names_id id (order_states.Error cause) = false

-- an active state names an id that was given, or that this change gives, and that no other order names
abbrev pub is_named_once : State → (order : ℕ) → OrderPutState → Bool
is_named_once s order put_states.Pending = true
is_named_once s order (put_states.Active id) =
    (nat_lt id s.ids || (id == order)) && list_all (λ (r : OrderRow). not (names_id (id_at s.tag id) r.state) || is_id (id_at s.tag order) r.id) s.orders
is_named_once s order (put_states.Error cause) = true

-- quotas are always set; a row goes where it is there
abbrev pub quota_applies : (project : List ℕ) → Option QuotaLimits → State → Bool
quota_applies project None s = list_any (λ r. bytes_eq project r.project) s.quotas
quota_applies project (Some limits) s = true

abbrev pub applies : Part → Change → Kept → Bool
applies part (KeyAdded key) kept =
    nat_lt 0 key.number && list_all (λ (other : WrappedKey). not (bytes_eq key.project other.project) || nat_lt other.number key.number) kept.keys
applies part (KeyRewrapped key) kept = is_some (key_of key.project key.number kept.keys)
applies part (TokenReplaced put) kept =
    has (secret_of (id_at kept.state.tag put.secret) kept.state.secrets) (λ row. is_some row.payload && is_some (key_of row.project put.number kept.keys))
applies part (KeyDropped put) kept =
    is_some (key_of put.project put.number kept.keys)
    && list_any (λ (key : WrappedKey). bytes_eq put.project key.project && not (put.number == key.number)) kept.keys
    && list_all (λ row. not (is_under put.project put.number row)) kept.state.secrets
applies part (SecretPut put) kept = is_new part kept.state (secret_ids kept.state) put.id
applies part (PayloadPut put) kept =
    has (secret_of (id_at kept.state.tag put.secret) kept.state.secrets) (λ row. is_none row.payload && is_some (key_of row.project put.number kept.keys))
applies part (MetadataPut put) kept = is_some (secret_of (id_at kept.state.tag put.secret) kept.state.secrets)
applies part (ContainerPut put) kept =
    is_new part kept.state (container_ids kept.state) put.id
    || has (container_of (id_at kept.state.tag put.id) kept.state.containers) (may_replace_container put)
applies part (ConsumerAdded put) kept =
    is_some (container_of (id_at kept.state.tag put.container) kept.state.containers)
    && not (list_any (is_consumer (id_at kept.state.tag put.container) put.name put.url) kept.state.consumers)
applies part (ConsumerDropped put) kept = list_any (is_consumer (id_at kept.state.tag put.container) put.name put.url) kept.state.consumers
applies part (AclPut put) kept =
    is_some (secret_of (id_at kept.state.tag put.target) kept.state.secrets)
    || is_some (container_of (id_at kept.state.tag put.target) kept.state.containers)
applies part (AclDropped id) kept = list_any (λ r. is_id (id_at kept.state.tag id) r.target) kept.state.acls
applies part (OrderPut put) kept =
    (is_new part kept.state (order_ids kept.state) put.id
    || has (order_of (id_at kept.state.tag put.id) kept.state.orders) (may_replace_order put))
    && is_named_once kept.state put.id put.state
applies part (QuotaPut put) kept = quota_applies put.project put.limits kept.state
applies part (Deleted id) kept = is_taken kept.state (id_at kept.state.tag id)

-- ---- what it does

abbrev pub with_token : List ℕ → Payload → Payload
with_token token payload = record payload { bytes = token }

abbrev pub token_replaced : List ℕ → SecretRow → SecretRow
token_replaced token row = record row { payload = option_map (with_token token) row.payload }

-- the state: its effect, or another token of the same bytes
abbrev pub state_changed : Change → State → State
state_changed (TokenReplaced put) s = record s { secrets = change_rows (λ r. is_id (id_at s.tag put.secret) r.id) (token_replaced (put.number ∷ put.token)) s.secrets }
state_changed change s = after_optional (effect_of s.tag change) s

-- the keys, with one at its place by project and number
abbrev pub insert_key : WrappedKey → List WrappedKey → List WrappedKey
insert_key key [] = key ∷ []
insert_key key (other ∷ keys) = if is_key_below key other then key ∷ other ∷ keys else other ∷ insert_key key keys

abbrev pub keys_changed : Change → List WrappedKey → List WrappedKey
keys_changed (KeyAdded key) keys = insert_key key keys
keys_changed (KeyRewrapped key) keys = change_rows (is_key key.project key.number) (λ other. record other { wrapped = key.wrapped }) keys
keys_changed (KeyDropped put) keys = drop_rows (is_key put.project put.number) keys
keys_changed change keys = keys

abbrev pub changed : Change → Kept → Kept
changed change kept = record {
  state = state_changed change kept.state;
  keys = keys_changed change kept.keys;
}

-- the change, where it applies
abbrev pub after_change : Part → Change → Kept → Option Kept
after_change part change kept = if applies part change kept then Some (changed change kept) else None

-- the changes in their order; None where one doesn't apply
abbrev pub after_changes : Part → List Change → Kept → Option Kept
after_changes part [] kept = Some kept
after_changes part (change ∷ changes) kept = option_and_then (after_changes part changes) (after_change part change kept)

-- all changes of a step of a record in their order
abbrev pub after_step : List Change → Kept → Option Kept
after_step step kept = after_changes Records step kept

-- all steps of a record in their order
abbrev pub after_record : List (List Change) → Kept → Option Kept
after_record [] kept = Some kept
after_record (step ∷ steps) kept = option_and_then (after_record steps) (after_step step kept)

-- nothing is kept, where so many ids were given: a snapshot's changes begin with this
abbrev pub kept_first : (tag ids : ℕ) → Kept
kept_first tag ids = record { state = record (empty_state tag) { ids = ids }; keys = [] }

-- a store with nothing in it
abbrev pub nothing_kept : ℕ → Kept
nothing_kept tag = kept_first tag 0
