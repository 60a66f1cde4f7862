-- A turn of a worker: a worker is free, has taken an order, or holds an order with the key that was drawn for it, and the turn is the
-- first of six cases that applies.
use Rattle.std.specs.Prelude.{ℕ, zero, suc, ◌+◌, ◌/◌, ◌==◌, ◌&&◌, ◌||◌, not, List, [], ◌∷◌, ◌++◌, length, map, filter, find, get_or, codes, Bool, true, false, Option, Some, None, if◌then◌else◌}
use Rattle.std.specs.List.{list_any}
use Rattle.std.specs.Str.{bytes_eq, str_to_ascii_lowercase}
use Rattle.kms_policy.specs.Quota.{limit_in_force, has_room}
use Rattle.kms_world.specs.Id.{is_id}
use Rattle.kms_world.specs.LookUp.{order_of, quota_of}
use Rattle.kms_world.specs.State.{State}
use Rattle.kms_world.specs.declared.id.Id.{Id}
use Rattle.kms_world.specs.declared.order.OrderRow.{OrderRow}
use Rattle.kms_world.specs.declared.order.OrderState.{OrderState}
use Rattle.kms_world.specs.declared.order.OrderState.TheVariants.{Pending, Active, Error}
use Rattle.kms_world.specs.declared.order.Cause.{Cause}
use Rattle.kms_world.specs.declared.order.Cause.TheVariants.{Unsupported, QuotaReached, IdsSpent}
use Rattle.kms_world.specs.declared.quota.QuotaKind.TheVariants.{Secrets}
use Rattle.kms_world.specs.declared.secret.SecretRow.{SecretRow}
use Rattle.kms_world.specs.declared.secret.SecretKind.TheVariants.{Symmetric}
use Rattle.kms_world.specs.declared.payload.Media.TheVariants.{OctetStream}
use Rattle.kms_model.specs.Secrets.{has_id, next_id}

-- what a worker holds
pub data Worker : Type 0 where
  Free : Worker
  Taken : Id → Worker
  Drawn : Id → (key : List ℕ) → Worker

abbrev pub is_pending : OrderState → Bool
is_pending Pending = true
is_pending (Active id) = false
is_pending (Error cause) = false

abbrev pub holds : Id → Worker → Bool
holds id Free = false
holds id (Taken order) = is_id id order
holds id (Drawn order key) = is_id id order

-- a pending order that no worker holds
abbrev pub is_open : List Worker → OrderRow → Bool
is_open pool o = is_pending o.state && not (list_any (holds o.id) pool)

-- keys of these algorithms, in any case, and lengths in bits are offered
abbrev pub is_offered_as : (algorithm : List ℕ) → (bit_length : ℕ) → Bool
is_offered_as algorithm n =
    (bytes_eq algorithm (codes "aes") && ((n == 128) || ((n == 192) || (n == 256))))
    || ((bytes_eq algorithm (codes "hmacsha256") && (n == 256)) || (bytes_eq algorithm (codes "hmacsha512") && (n == 512)))

abbrev pub is_offered : OrderRow → Bool
is_offered o = is_offered_as (str_to_ascii_lowercase o.algorithm) o.bit_length

-- the project's quota of secrets is reached
abbrev pub is_full : State → (project : List ℕ) → Bool
is_full s project = not (has_room (length (filter (λ row. bytes_eq row.project project) s.secrets)) (limit_in_force (quota_of project s.quotas) Secrets))

-- the cases
pub data Turn : Type 0 where
  -- it is free, and no order is open
  Idle : Turn
  -- it takes an order
  Took : OrderRow → Turn
  -- its order isn't there any more
  Gone : Turn
  -- the order ends with an error
  Failed : OrderRow → Cause → Turn
  -- it draws the key
  Drew : OrderRow → Turn
  -- it makes the secret
  Made : OrderRow → (key : List ℕ) → Turn

abbrev pub takes : Option OrderRow → Turn
takes None = Idle
takes (Some o) = Took o

abbrev pub draws_for : Option OrderRow → Turn
draws_for None = Gone
draws_for (Some o) = if is_offered o then Drew o else Failed o Unsupported

abbrev pub makes : State → (key : List ℕ) → Option OrderRow → Turn
makes s key None = Gone
makes s key (Some o) = if is_full s o.project then Failed o QuotaReached else if has_id s then Made o key else Failed o IdsSpent

abbrev pub turn_with : State → List Worker → Worker → Turn
turn_with s pool Free = takes (find (is_open pool) s.orders)
turn_with s pool (Taken id) = draws_for (order_of id s.orders)
turn_with s pool (Drawn id key) = makes s key (order_of id s.orders)

abbrev pub turn_of : State → List Worker → (worker : ℕ) → Turn
turn_of s pool worker = turn_with s pool (get_or pool worker Free)

-- the order, in this state from this time on
abbrev pub with_order : Id → OrderState → (t : ℕ) → OrderRow → OrderRow
with_order id state t o = if is_id id o.id then record o { state = state; updated = t } else o

-- the secret that an order asks for, under the next id
abbrev pub secret_for : State → OrderRow → (key : List ℕ) → (t : ℕ) → SecretRow
secret_for s o key t = record {
  id = next_id s;
  project = o.project;
  creator = o.creator;
  created = t;
  updated = t;
  name = o.name;
  algorithm = Some o.algorithm;
  bit_length = Some o.bit_length;
  mode = o.mode;
  kind = Symmetric;
  expiration = o.expiration;
  payload = Some (record { media = OctetStream; bytes = key });
  metadata = [];
}

abbrev pub state_turned : State → (t : ℕ) → Turn → State
state_turned s t Idle = s
state_turned s t (Took o) = s
state_turned s t Gone = s
state_turned s t (Failed o cause) = record s { orders = map (with_order o.id (Error cause) t) s.orders }
state_turned s t (Drew o) = s
state_turned s t (Made o key) = record s {
  ids = s.ids + 1;
  secrets = s.secrets ++ secret_for s o key t ∷ [];
  orders = map (with_order o.id (Active (next_id s)) t) s.orders;
}

-- what the worker holds after its turn, in which this key was drawn
abbrev pub worker_turned : (key : List ℕ) → Worker → Turn → Worker
worker_turned key w Idle = w
worker_turned key w (Took o) = Taken o.id
worker_turned key w Gone = Free
worker_turned key w (Failed o cause) = Free
worker_turned key w (Drew o) = Drawn o.id key
worker_turned key w (Made o made) = Free

abbrev pub put_worker : ℕ → Worker → List Worker → List Worker
put_worker n w [] = []
put_worker zero w (v ∷ pool) = w ∷ pool
put_worker (suc n) w (v ∷ pool) = v ∷ put_worker n w pool

-- the turn is a step
abbrev pub turn_stores : Turn → Bool
turn_stores Idle = false
turn_stores (Took o) = false
turn_stores Gone = false
turn_stores (Failed o cause) = true
turn_stores (Drew o) = false
turn_stores (Made o key) = true

-- it draws random bytes: a key, or what its secret is sealed with
abbrev pub turn_draws : Turn → Bool
turn_draws Idle = false
turn_draws (Took o) = false
turn_draws Gone = false
turn_draws (Failed o cause) = false
turn_draws (Drew o) = true
turn_draws (Made o key) = true

-- how many bytes of a key it draws
abbrev pub key_size : Turn → ℕ
key_size Idle = 0
key_size (Took o) = 0
key_size Gone = 0
key_size (Failed o cause) = 0
key_size (Drew o) = o.bit_length / 8
key_size (Made o key) = 0
