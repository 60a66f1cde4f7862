-- What a request does to the orders: it puts none, or one that is new, and deletes none but the one that it names.
use Rattle.std.proofs.Common.{◌≡◌, ◌⊎◌, inl, inr, ℕ, Bool, true, false, not, if◌then◌else◌, List, [], ◌∷◌, Option, Some, None, Result, Ok, Err, refl, sym, ap, subst, ◌∙◌, arith}
use Rattle.std.specs.Prelude.{find, is_none, option_and_then}
use Rattle.std.specs.List.{Contains, list_all}
use Rattle.std.specs.Str.{bytes_eq}
use Rattle.std.proofs.lemmas.List.Elements.{Contains-append_left}
use Rattle.std.proofs.lemmas.Bool.{and_from, and_parts, cases_Bool, not_from_false}
use Rattle.kms_box.specs.Consumer.{checked_consumer}
use Rattle.kms_box.specs.Member.{checked_member}
use Rattle.kms_page.specs.declared.listing.Listing.TheVariants as listing
use Rattle.kms_policy.specs.Acl.{change_of}
use Rattle.kms_policy.specs.Limits.{limits_of}
use Rattle.kms_secret.specs.Metadata.{checked_metadata, checked_pair}
use Rattle.kms_secret.specs.Payload.{checked_payload}
use Rattle.kms_world.proofs.EffectLaws.{ids_given, tag_kept}
use Rattle.kms_world.specs.Effect.{Effect, after_effect, after_effects, SecretPut, PayloadPut, MetadataPut, ContainerPut, ConsumerAdded, ConsumerDropped, AclPut, AclDropped, OrderPut, QuotaPut, QuotaDropped, Deleted}
use Rattle.kms_world.specs.Id.{is_id}
use Rattle.kms_world.specs.LookUp.{acl_of, quota_of}
use Rattle.kms_world.specs.State.{State}
use Rattle.kms_world.specs.declared.acl.AclRow.{AclRow}
use Rattle.kms_world.specs.declared.action.Action.TheVariants.{SecretGet, SecretDecrypt, SecretWrite, SecretDelete, SecretList, AclGet, AclWrite, ContainerGet, ContainerWrite, ContainerDelete, ContainerList, ConsumerGet, ConsumerWrite, OrderDelete, OrderGet, OrderList, QuotaGet, QuotaAdmin}
use Rattle.kms_world.specs.declared.body.OrderBody.{OrderBody}
use Rattle.kms_world.specs.declared.caller.Caller.{Caller}
use Rattle.kms_world.specs.declared.container.ContainerRow.{ContainerRow}
use Rattle.kms_world.specs.declared.id.Id.{Id}
use Rattle.kms_world.specs.declared.operation.Op.{Op}
use Rattle.kms_world.specs.declared.operation.Op.TheVariants.{ListSecrets, PostSecret, GetSecret, PutPayload, DeleteSecret, GetPayload, GetMetadata, PutMetadata, PostPair, GetPair, PutPair, DeletePair, GetAcl, PutAcl, PatchAcl, DeleteAcl, ListContainers, PostContainer, GetContainer, DeleteContainer, PostMember, DeleteMember, ListConsumers, PostConsumer, DeleteConsumer, ListOrders, PostOrder, GetOrder, DeleteOrder, GetQuotas, ListQuotas, GetProjectQuotas, PutProjectQuotas, DeleteProjectQuotas}
use Rattle.kms_world.specs.declared.operation.Request.{Request}
use Rattle.kms_world.specs.declared.operation.Request.TheVariants.{Asking, Refusing}
use Rattle.kms_world.specs.declared.order.OrderRow.{OrderRow}
use Rattle.kms_world.specs.declared.payload.Payload.{Payload}
use Rattle.kms_world.specs.declared.quota.QuotaKind.TheVariants.{Secrets, Orders, Containers, Consumers}
use Rattle.kms_world.specs.declared.refusal.Field.TheVariants.{Key}
use Rattle.kms_world.specs.declared.refusal.Refusal.{Refusal}
use Rattle.kms_world.specs.declared.refusal.Refusal.TheVariants.{BadBody, Conflict, IdsSpent, NoObject, NotAcceptable}
use Rattle.kms_world.specs.declared.reply.Media2.TheVariants.{Json}
use Rattle.kms_world.specs.declared.secret.SecretRow.{SecretRow}
use Rattle.kms_model.specs.Accept.{admits}
use Rattle.kms_model.specs.AccessLists.{list_dropped, target_for}
use Rattle.kms_model.specs.Ask.{asked, effects_of, state_after}
use Rattle.kms_model.specs.Consumers.{consumer_added, is_there}
use Rattle.kms_model.specs.Containers.{any_container, container_deleted, container_for, container_target, container_wanted, gives_up_member, takes_member}
use Rattle.kms_model.specs.Deletion.{deleted_by_op, deleted_by_request}
use Rattle.kms_model.specs.Done.{Done, ◌>>=◌, effects_by, only_if, there}
use Rattle.kms_model.specs.Lists.{query_asked}
use Rattle.kms_model.specs.Metadata.{may_add, pair_of}
use Rattle.kms_model.specs.Orders.{any_order, new_order, order_deleted, order_for, order_posted, order_shown, order_target, order_wanted, orders_listed}
use Rattle.kms_model.specs.OrderLaw.{AreOrdersApart}
use Rattle.kms_model.specs.Payloads.{type_of}
use Rattle.kms_model.specs.Permission.{granted}
use Rattle.kms_model.specs.Quotas.{within_quota}
use Rattle.kms_model.specs.Requests.{asked_state}
use Rattle.kms_model.specs.Secrets.{deleted, has_id, live_secret, posted_effects, new_secret, secret_for, secret_target, wanted}
use Rattle.kms_model.proofs.OrderMoves.{IsFewer, IsMore, one_more}
use Rattle.kms_model.proofs.OrderStaying.{from_filter, to_filter}
use Rattle.kms_model.proofs.SecretLaws.{found_passes, next_given, one_id}

-- ---- effects

abbrev names_it : Option Id → Id → Bool
names_it None id = false
names_it (Some named) id = is_id named id

-- it puts no order, and deletes nothing but what is named
abbrev is_quiet : (named : Option Id) → Effect → Bool
is_quiet named (SecretPut row) = true
is_quiet named (PayloadPut id updated payload) = true
is_quiet named (MetadataPut id updated pairs) = true
is_quiet named (ContainerPut row) = true
is_quiet named (ConsumerAdded row) = true
is_quiet named (ConsumerDropped id name url) = true
is_quiet named (AclPut row) = true
is_quiet named (AclDropped id) = true
is_quiet named (OrderPut row) = false
is_quiet named (QuotaPut row) = true
is_quiet named (QuotaDropped project) = true
is_quiet named (Deleted id) = names_it named id

abbrev pub AreQuiet : (named : Option Id) → List Effect → Type 0
AreQuiet named effects = list_all (is_quiet named) effects ≡ true

-- an order that isn't the named one stays
abbrev pub Stays : (named : Option Id) → (s after : State) → Type 0
Stays named s after = (o : OrderRow) → Contains s.orders o → Contains after.orders o ⊎ (named ≡ Some o.id)

one_from : (named : Option Id) (effect : Effect) (s : State) → is_quiet named effect ≡ true → (p : OrderRow) → Contains (after_effect effect s).orders p → Contains s.orders p
one_from named (SecretPut row) s q p is = is
one_from named (PayloadPut id updated payload) s q p is = is
one_from named (MetadataPut id updated pairs) s q p is = is
one_from named (ContainerPut row) s q p is = is
one_from named (ConsumerAdded row) s q p is = is
one_from named (ConsumerDropped id name url) s q p is = is
one_from named (AclPut row) s q p is = is
one_from named (AclDropped id) s q p is = is
one_from named (OrderPut row) s q p is = absurd cc
one_from named (QuotaPut row) s q p is = is
one_from named (QuotaDropped project) s q p is = is
one_from named (Deleted id) s q p is = from_filter (λ (r : OrderRow). not (is_id id r.id)) s.orders p is

named_is : (named : Option Id) (id : Id) → names_it named id ≡ true → named ≡ Some id
named_is None id is = absurd cc
named_is (Some other) id is = ap (λ (i : Id). let o : Option Id = Some i in o) (sym (one_id other id is))

one_stays : (named : Option Id) (effect : Effect) (s : State) → is_quiet named effect ≡ true → Stays named s (after_effect effect s)
one_stays named (SecretPut row) s q o is = inl is
one_stays named (PayloadPut id updated payload) s q o is = inl is
one_stays named (MetadataPut id updated pairs) s q o is = inl is
one_stays named (ContainerPut row) s q o is = inl is
one_stays named (ConsumerAdded row) s q o is = inl is
one_stays named (ConsumerDropped id name url) s q o is = inl is
one_stays named (AclPut row) s q o is = inl is
one_stays named (AclDropped id) s q o is = inl is
one_stays named (OrderPut row) s q o is = absurd cc
one_stays named (QuotaPut row) s q o is = inl is
one_stays named (QuotaDropped project) s q o is = inl is
one_stays named (Deleted id) s q o is = elim (cases_Bool (is_id id o.id)) [
  | inl at ↦ inr (named_is named id q ∙ ap (λ (i : Id). let o : Option Id = Some i in o) (sym (one_id id o.id at)))
  | inr other ↦ inl (to_filter (λ (r : OrderRow). not (is_id id r.id)) s.orders o (not_from_false (is_id id o.id) other) is)
]

pub fewer_by : (named : Option Id) (effects : List Effect) (s : State) → AreQuiet named effects → IsFewer s (after_effects effects s)
fewer_by named [] s q = record { tag = refl; ids = omega arith; from = λ p is. is }
fewer_by named (effect ∷ effects) s q =
    let both = and_parts (is_quiet named effect) (list_all (is_quiet named) effects) q in
    let rest = fewer_by named effects (after_effect effect s) both.1 in
    let first = (ids_given effect s).0 in
    let more = rest.ids in
    record {
      tag = rest.tag ∙ tag_kept effect s;
      ids = omega (arith, first, more);
      from = λ p is. one_from named effect s both.0 p (rest.from p is);
    }

pub stays_by : (named : Option Id) (effects : List Effect) (s : State) → AreQuiet named effects → Stays named s (after_effects effects s)
stays_by named [] s q o is = inl is
stays_by named (effect ∷ effects) s q o is =
    let both = and_parts (is_quiet named effect) (list_all (is_quiet named) effects) q in
    elim (one_stays named effect s both.0 o is) [
      | inl stays ↦ stays_by named effects (after_effect effect s) both.1 o stays
      | inr gone ↦ inr gone
    ]

-- ---- operations

-- what comes after a test has quiet effects, where it has any
after : (named : Option Id) {A : Type 0} (test : Result A Refusal) (rest : A → Result Done Refusal) → ((x : A) → AreQuiet named (effects_by (rest x))) → AreQuiet named (effects_by (test >>= rest))
after named (Ok x) rest h = h x
after named (Err refusal) rest h = refl

either : (b : Bool) (x y : Result Done Refusal) → AreQuiet None (effects_by x) → AreQuiet None (effects_by y) → AreQuiet None (effects_by (if b then x else y))
either true x y first second = first
either false x y first second = second

posted_quiet : (row : SecretRow) (t : ℕ) (payload : Option Payload) → AreQuiet None (posted_effects row t payload)
posted_quiet row t None = refl
posted_quiet row t (Some payload) = refl

dropped_quiet : (target : Id) (found : Option AclRow) → AreQuiet None (list_dropped target found)
dropped_quiet target None = refl
dropped_quiet target (Some acl) = refl

-- the row that was found, where it was granted
granted_one : {X : Type 0} (may : Result (Unit {0}) Refusal) (x row : X) → (may >>= λ yes. Ok x) ≡ Ok row → Some x ≡ Some row
granted_one (Ok may) x row is = cc
granted_one (Err refusal) x row is = absurd cc

pub found_one : {X : Type 0} (found : Option X) (may : X → Result (Unit {0}) Refusal) (row : X) → (there found >>= λ x. may x >>= λ yes. Ok x) ≡ Ok row → found ≡ Some row
found_one None may row is = absurd cc
found_one (Some x) may row is = granted_one (may x) x row is

-- it has the id in the path
named_one : {X : Type 0} (id_of : X → Id) (rows : List X) (id : Option Id) (row : X) → option_and_then (λ (i : Id). find (λ r. is_id i (id_of r)) rows) id ≡ Some row → names_it id (id_of row) ≡ true
named_one id_of rows None row is = absurd cc
named_one id_of rows (Some i) row is = found_passes (λ r. is_id i (id_of r)) rows row is

-- so its deletion deletes nothing but what is named
deletion_quiet : {X : Type 0} (id_of : X → Id) (rows : List X) (id : Option Id) (may : X → Result (Unit {0}) Refusal) (found : Result X Refusal) (done : X → Result Done Refusal)
    → found ≡ (there (option_and_then (λ (i : Id). find (λ r. is_id i (id_of r)) rows) id) >>= λ x. may x >>= λ yes. Ok x)
    → ((row : X) → effects_by (done row) ≡ Deleted (id_of row) ∷ []) → AreQuiet id (effects_by (found >>= done))
deletion_quiet id_of rows id may (Err refusal) done is effects = refl
deletion_quiet id_of rows id may (Ok row) done is effects =
    let one = named_one id_of rows id row (found_one (option_and_then (λ (i : Id). find (λ r. is_id i (id_of r)) rows) id) may row (sym is)) in
    subst (AreQuiet id) (sym (effects row)) (and_from (names_it id (id_of row)) true one refl)

pub secret_deletion : (s : State) (caller : Caller) (id : Option Id) → AreQuiet id (effects_by (deleted s caller id))
secret_deletion s caller id =
    deletion_quiet (λ (r : SecretRow). r.id) s.secrets id (λ row. granted caller SecretDelete (Some (secret_target s row))) _ _ refl (λ row. refl)

container_deletion : (s : State) (caller : Caller) (id : Option Id) → AreQuiet id (effects_by (container_deleted s caller id))
container_deletion s caller id =
    deletion_quiet (λ (r : ContainerRow). r.id) s.containers id (λ row. granted caller ContainerDelete (Some (container_target s row))) _ _ refl (λ row. refl)

-- ---- operations on orders

pub order_deletion : (s : State) (caller : Caller) (id : Option Id) → AreQuiet id (effects_by (order_deleted s caller id))
order_deletion s caller id =
    deletion_quiet (λ (r : OrderRow). r.id) s.orders id (λ row. granted caller OrderDelete (Some (order_target row))) _ _ refl (λ row. refl)

pub orders_listed_quiet : (s : State) (caller : Caller) (text : List ℕ) → AreQuiet None (effects_by (orders_listed s caller text))
orders_listed_quiet s caller text = after None (granted caller OrderList None) _ (λ a. after None (query_asked listing.Orders text) _ (λ b. refl))

pub order_shown_quiet : (s : State) (caller : Caller) (id : Option Id) → AreQuiet None (effects_by (order_shown s caller id))
order_shown_quiet s caller id = after None (order_for caller OrderGet (any_order s id)) _ (λ a. refl)

-- ---- all of them

abbrev posts_order : Op → Bool
posts_order (PostOrder body) = true
posts_order op = false

quiet : (s : State) (caller : Caller) (op : Op) (t : ℕ) → posts_order op ≡ false → AreQuiet (deleted_by_op op) (effects_of s caller op t)
quiet s caller (ListSecrets text) t other = after None (granted caller SecretList None) _ (λ a. after None (query_asked listing.Secrets text) _ (λ b. refl))
quiet s caller (PostSecret body) t other =
    after None (wanted caller body t) _ (λ a. after None (within_quota s caller.project Secrets) _ (λ b. after None (only_if (has_id s) IdsSpent) _ (λ c. posted_quiet (new_secret s caller a t) t a.payload)))
quiet s caller (GetSecret id accept) t other = after None (secret_for s caller SecretGet (live_secret s id t)) _ (λ a. after None (only_if (admits accept Json) NotAcceptable) _ (λ b. refl))
quiet s caller (PutPayload id put body) t other =
    after None (secret_for s caller SecretWrite (live_secret s id t)) _ (λ a. after None (checked_payload put body) _ (λ b. after None (only_if (is_none a.payload) Conflict) _ (λ c. refl)))
quiet s caller (DeleteSecret id) t other = secret_deletion s caller id
quiet s caller (GetPayload id accept) t other =
    after None (secret_for s caller SecretDecrypt (live_secret s id t)) _ (λ a. after None (there a.payload) _ (λ b. after None (only_if (admits accept (type_of b.media)) NotAcceptable) _ (λ c. refl)))
quiet s caller (GetMetadata id) t other = after None (secret_for s caller SecretGet (live_secret s id t)) _ (λ a. refl)
quiet s caller (PutMetadata id body) t other =
    after None (secret_for s caller SecretWrite (live_secret s id t)) _ (λ a. after None body _ (λ b. after None (checked_metadata b) _ (λ c. refl)))
quiet s caller (PostPair id body) t other =
    after None (secret_for s caller SecretWrite (live_secret s id t)) _ (λ a. after None body _ (λ b. after None (checked_pair b) _ (λ c. after None (may_add c.0 a.metadata) _ (λ d. refl))))
quiet s caller (GetPair id key) t other = after None (secret_for s caller SecretGet (live_secret s id t)) _ (λ a. after None (there (pair_of key a.metadata)) _ (λ b. refl))
quiet s caller (PutPair id key body) t other =
    after None (secret_for s caller SecretWrite (live_secret s id t)) _ (λ a. after None (there (pair_of key a.metadata)) _
    (λ b. after None body _ (λ c. after None (checked_pair c) _ (λ d. after None (only_if (bytes_eq d.0 b.0) (BadBody Key)) _ (λ e. refl)))))
quiet s caller (DeletePair id key) t other = after None (secret_for s caller SecretWrite (live_secret s id t)) _ (λ a. after None (there (pair_of key a.metadata)) _ (λ b. refl))
quiet s caller (GetAcl kind id) t other = after None (target_for s caller AclGet kind id t) _ (λ a. refl)
quiet s caller (PutAcl kind id body) t other = after None (target_for s caller AclWrite kind id t) _ (λ a. after None body _ (λ b. after None (change_of b) _ (λ c. refl)))
quiet s caller (PatchAcl kind id body) t other = after None (target_for s caller AclWrite kind id t) _ (λ a. after None body _ (λ b. after None (change_of b) _ (λ c. refl)))
quiet s caller (DeleteAcl kind id) t other = after None (target_for s caller AclWrite kind id t) _ (λ a. dropped_quiet a (acl_of a s.acls))
quiet s caller (ListContainers text) t other = after None (granted caller ContainerList None) _ (λ a. after None (query_asked listing.Containers text) _ (λ b. refl))
quiet s caller (PostContainer body) t other =
    after None (container_wanted s caller body t) _ (λ a. after None (within_quota s caller.project Containers) _ (λ b. after None (only_if (has_id s) IdsSpent) _ (λ c. refl)))
quiet s caller (GetContainer id) t other = after None (container_for s caller ContainerGet (any_container s id)) _ (λ a. refl)
quiet s caller (DeleteContainer id) t other = container_deletion s caller id
quiet s caller (PostMember id body) t other =
    after None (container_for s caller ContainerWrite (any_container s id)) _ (λ a. after None body _ (λ b. after None (checked_member b) _ (λ c. after None (takes_member s caller a c t) _ (λ d. refl))))
quiet s caller (DeleteMember id body) t other =
    after None (container_for s caller ContainerWrite (any_container s id)) _ (λ a. after None body _ (λ b. after None (checked_member b) _ (λ c. after None (gives_up_member a c) _ (λ d. refl))))
quiet s caller (ListConsumers id text) t other = after None (container_for s caller ConsumerGet (any_container s id)) _ (λ a. after None (query_asked listing.Consumers text) _ (λ b. refl))
quiet s caller (PostConsumer id body) t other =
    after None (container_for s caller ConsumerWrite (any_container s id)) _ (λ a. after None body _ (λ b. after None (checked_consumer b) _
    (λ c. either (is_there s a.id c) _ (consumer_added s a c t) refl (after None (within_quota s a.project Consumers) _ (λ d. refl)))))
quiet s caller (DeleteConsumer id body) t other =
    after None (container_for s caller ConsumerWrite (any_container s id)) _ (λ a. after None body _ (λ b. after None (checked_consumer b) _ (λ c. after None (only_if (is_there s a.id c) NoObject) _ (λ d. refl))))
quiet s caller (ListOrders text) t other = refl
quiet s caller (PostOrder body) t other = absurd cc
quiet s caller (GetOrder id) t other = refl
quiet s caller (DeleteOrder id) t other = refl
quiet s caller GetQuotas t other = after None (granted caller QuotaGet None) _ (λ a. refl)
quiet s caller (ListQuotas text) t other = after None (granted caller QuotaAdmin None) _ (λ a. after None (query_asked listing.Quotas text) _ (λ b. refl))
quiet s caller (GetProjectQuotas project) t other = after None (there project) _ (λ a. after None (granted caller QuotaAdmin None) _ (λ b. after None (there (quota_of a s.quotas)) _ (λ c. refl)))
quiet s caller (PutProjectQuotas project body) t other =
    after None (there project) _ (λ a. after None (granted caller QuotaAdmin None) _ (λ b. after None body _ (λ c. after None (limits_of c) _ (λ d. refl))))
quiet s caller (DeleteProjectQuotas project) t other =
    after None (there project) _ (λ a. after None (granted caller QuotaAdmin None) _ (λ b. after None (there (quota_of a s.quotas)) _ (λ c. refl)))

-- ---- an order that is posted

-- the state after what came of an operation
abbrev state_by : State → Result Done Refusal → State
state_by s result = after_effects (effects_by result) s

abbrev pub IsMoved : State → Result Done Refusal → Type 0
IsMoved s result = IsFewer s (state_by s result) ⊎ IsMore s (state_by s result)

moved_after : (s : State) {A : Type 0} (test : Result A Refusal) (rest : A → Result Done Refusal) → ((x : A) → IsMoved s (rest x)) → IsMoved s (test >>= rest)
moved_after s (Ok x) rest h = h x
moved_after s (Err refusal) rest h = inl (fewer_by None [] s refl)

pub posted_moved : (s : State) (caller : Caller) (body : Result OrderBody Refusal) (t : ℕ) → IsMoved s (order_posted s caller body t)
posted_moved s caller body t =
    moved_after s (order_wanted caller body t) _ (λ a. moved_after s (within_quota s caller.project Orders) _ (λ b. moved_after s (only_if (has_id s) IdsSpent) _ (λ c.
    inr (record { row = new_order s caller a t; is_next = refl; pending = refl; tag = refl; ids = next_given s; orders = refl }))))

pub more_stays : (s after : State) → IsMore s after → AreOrdersApart s → Stays None s after
more_stays s after m apart o is = inl (subst (λ (l : List OrderRow). Contains l o) (sym (one_more s after m apart)) (Contains-append_left s.orders (m.row ∷ []) o is))

-- ---- requests

op_moved : (s : State) (caller : Caller) (op : Op) (t : ℕ) → IsMoved s (asked s caller op t)
op_moved s caller (PostOrder body) t = inl (fewer_by None [] s refl)
op_moved s caller op t = inl (fewer_by (deleted_by_op op) (effects_of s caller op t) s (quiet s caller op t refl))

op_stays : (s : State) (caller : Caller) (op : Op) (t : ℕ) → AreOrdersApart s → Stays (deleted_by_op op) s (state_after s caller op t)
op_stays s caller (PostOrder body) t apart = stays_by None [] s refl
op_stays s caller op t apart = stays_by (deleted_by_op op) (effects_of s caller op t) s (quiet s caller op t refl)

pub request_moved : (s : State) (request : Request) (t : ℕ) → IsFewer s (asked_state s request t) ⊎ IsMore s (asked_state s request t)
request_moved s (Asking caller op) t = op_moved s caller op t
request_moved s (Refusing refusal) t = inl (fewer_by None [] s refl)

pub request_stays : (s : State) (request : Request) (t : ℕ) → AreOrdersApart s → Stays (deleted_by_request request) s (asked_state s request t)
request_stays s (Asking caller op) t apart = op_stays s caller op t apart
request_stays s (Refusing refusal) t apart = stays_by None [] s refl
