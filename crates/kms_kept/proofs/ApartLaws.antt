-- A secret, a container and an order never have the same id, whatever change applies.
use Rattle.std.proofs.Common.{◌≡◌, ◌⊎◌, ℕ, ◌<◌, Bool, true, false, not, cond, List, [], ◌∷◌, ◌++◌, map, Option, Some, None, refl, sym, ap, subst, ◌∙◌, arith, inl, inr}
use Rattle.std.specs.Prelude.{◌||◌, find, filter, is_some}
use Rattle.std.specs.List.{AllByRecursion}
use Rattle.std.proofs.lemmas.Bool.{cases_Bool, and_parts, or_cases, or_parts, eqb-true, eq-eqb, ne_eqb, not-true, both_ways}
use Rattle.kms_world.specs.Effect.{put_row, change_rows, with_payload, with_metadata, after_effect}
use Rattle.kms_world.specs.Id.{id_number, id_at, is_id}
use Rattle.kms_world.specs.State.{State}
use Rattle.kms_world.specs.declared.container.ContainerRow.{ContainerRow}
use Rattle.kms_world.specs.declared.id.Id.{Id}
use Rattle.kms_world.specs.declared.order.OrderRow.{OrderRow}
use Rattle.kms_world.specs.declared.secret.SecretRow.{SecretRow}
use Rattle.kms_record.specs.declared.change.Change.{Change}
use Rattle.kms_record.specs.declared.change.Change.TheVariants.{KeyAdded, KeyRewrapped, TokenReplaced, KeyDropped, SecretPut, PayloadPut, MetadataPut, ContainerPut, ConsumerAdded, ConsumerDropped, AclPut, AclDropped, OrderPut, QuotaPut, Deleted}
use Rattle.kms_record.specs.declared.quota.QuotaLimits.{QuotaLimits}
use Rattle.kms_record.specs.ChangeEffect.{container_at, order_at, quota_effect}
use Rattle.kms_record.specs.SecretPut.{row_of}
use Rattle.kms_record.proofs.PairwiseLaws.{all_push}
use Rattle.kms_kept.specs.Apart.{IsOther, AreApart, AreIdsApart}
use Rattle.kms_kept.specs.Kept.{Kept, Part, Records, Base, applies, changed, has, is_new, is_taken, token_replaced, may_replace_container, may_replace_order, secret_ids, container_ids, order_ids}
use Rattle.kms_kept.specs.Rising.{Rises, IsRising}
use Rattle.kms_kept.proofs.KeptLists.{all_to}
use Rattle.kms_kept.proofs.RisingLaws.{below_all, new_fits, kept_all, same_ids, ids_push, in_place, put_last, changed_id}

-- ---- a new id is nowhere

pub record IsFresh (s : State) (id : Id) : Type 0 where
  pub secrets : IsOther (secret_ids s) id
  pub containers : IsOther (container_ids s) id
  pub orders : IsOther (order_ids s) id

nowhere : {X : Type 0} (id_of : X → Id) (id : Id) (rows : List X) → is_some (find (λ r. is_id id (id_of r)) rows) ≡ false → IsOther (map id_of rows) id
nowhere {X} id_of id [] h = tt
nowhere {X} id_of id (x ∷ xs) h = elim (cases_Bool (is_id id (id_of x))) [
  | inl t ↦ let found : true ≡ false = rw t at h in absurd cc
  | inr f ↦ (f, nowhere id_of id xs (rw f at h))
]

others_below : (id : Id) (ids : List Id) → AllByRecursion (λ (other : Id). other.0 < id.0) ids → IsOther ids id
others_below id ids below = all_to (λ (other : Id). other.0 < id.0) (λ (other : Id). is_id id other ≡ false) (λ other lt. ne_eqb other.0 id.0 (λ e. absurd (omega (arith, lt, e)))) ids below

given_others : (tag n count : ℕ) (ids : List Id) → count ≡ n → Rises tag n ids → IsOther ids (id_at tag count)
given_others tag n count ids e r = others_below (id_at tag count) ids (subst (λ (m : ℕ). AllByRecursion (λ (other : Id). other.0 < id_number tag m) ids) (sym e) (below_all tag n ids r))

pub fresh : (part : Part) (s : State) (own : List Id) (count : ℕ) → is_new part s own count ≡ true → IsRising s → IsFresh s (id_at s.tag count)
fresh Records s own count h r =
    let e = eqb-true count s.ids (and_parts _ _ h).0 in
    record {
      secrets = given_others s.tag s.ids count (secret_ids s) e r.secrets;
      containers = given_others s.tag s.ids count (container_ids s) e r.containers;
      orders = given_others s.tag s.ids count (order_ids s) e r.orders;
    }
fresh Base s own count h r =
    let id = id_at s.tag count in
    let free : is_taken s id ≡ false = not-true (is_taken s id) (and_parts _ _ h).1 in
    let parts = or_parts (is_some (find (λ (x : SecretRow). is_id id x.id) s.secrets) || is_some (find (λ (x : ContainerRow). is_id id x.id) s.containers)) (is_some (find (λ (x : OrderRow). is_id id x.id) s.orders)) free in
    let front = or_parts (is_some (find (λ (x : SecretRow). is_id id x.id) s.secrets)) (is_some (find (λ (x : ContainerRow). is_id id x.id) s.containers)) parts.0 in
    record {
      secrets = nowhere (λ (x : SecretRow). x.id) id s.secrets front.0;
      containers = nowhere (λ (x : ContainerRow). x.id) id s.containers front.1;
      orders = nowhere (λ (x : OrderRow). x.id) id s.orders parts.1;
    }

-- ---- lists of ids

turn : (a b : Id) → is_id a b ≡ false → is_id b a ≡ false
turn a b h = ne_eqb a.0 b.0 (λ e. both_ways (is_id a b) h (eq-eqb b.0 a.0 (sym e)))

push_right : (ids others : List Id) (id : Id) → AreApart ids others → IsOther ids id → AreApart ids (others ++ id ∷ [])
push_right [] others id apart other = tt
push_right (x ∷ xs) others id apart other = (all_push (λ (o : Id). is_id x o ≡ false) others id apart.0 (turn id x other.0), push_right xs others id apart.1 other.1)

module _ {X : Type 0} (id_of : X → Id) where
  filter_left : (keep : X → Bool) (rows : List X) (others : List Id) → AreApart (map id_of rows) others → AreApart (map id_of (filter keep rows)) others
  filter_left keep rows others apart = kept_all id_of (IsOther others) keep rows apart

  filter_right : (keep : X → Bool) (ids : List Id) (rows : List X) → AreApart ids (map id_of rows) → AreApart ids (map id_of (filter keep rows))
  filter_right keep ids rows apart = all_to (IsOther (map id_of rows)) (IsOther (map id_of (filter keep rows))) (λ id other. kept_all id_of (λ (o : Id). is_id id o ≡ false) keep rows other) ids apart

  -- a row that is put takes the place of one with its id, or is new and goes last
  put_ids : (part : Part) (s : State) (rows : List X) (row : X) (count : ℕ) (p : X → Bool) → id_of row ≡ id_at s.tag count → Rises s.tag s.ids (map id_of rows)
      → (is_new part s (map id_of rows) count ≡ true) ⊎ (has (find (λ r. is_id (id_of row) (id_of r)) rows) p ≡ true)
      → (map id_of (put_row (λ r. is_id (id_of row) (id_of r)) row rows) ≡ map id_of rows)
      ⊎ ((map id_of (put_row (λ r. is_id (id_of row) (id_of r)) row rows) ≡ map id_of rows ++ id_at s.tag count ∷ []) × (is_new part s (map id_of rows) count ≡ true))
  put_ids part s rows row count p is r (inl new) =
      let f = new_fits part s (map id_of rows) count new r in
      let above = subst (λ (i : Id). AllByRecursion (λ (other : Id). other.0 < i.0) (map id_of rows)) (sym is) f.above in
      inr (put_last id_of row rows above ∙ ap (λ (i : Id). map id_of rows ++ i ∷ []) is, new)
  put_ids part s rows row count p is r (inr old) = inl (in_place id_of p row rows old)

-- ---- states

secrets_apart : (s : State) → AreIdsApart s → (test : SecretRow → Bool) (f : SecretRow → SecretRow) → ((x : SecretRow) → (f x).id ≡ x.id)
    → (let after : State = record s { secrets = change_rows test f s.secrets } in AreIdsApart after)
secrets_apart s a test f same =
    let ids = same_ids (λ (x : SecretRow). x.id) (λ x. cond (test x) (f x) x) (λ x. changed_id (test x) f x (same x)) s.secrets in
    record {
      containers = subst (AreApart (container_ids s)) (sym ids) a.containers;
      orders = subst (AreApart (order_ids s)) (sym ids) a.orders;
      orders_too = a.orders_too;
    }

quota_apart : (project : List ℕ) (limits : Option QuotaLimits) (s : State) → AreIdsApart s → AreIdsApart (after_effect (quota_effect project limits) s)
quota_apart project None s a = record { containers = a.containers; orders = a.orders; orders_too = a.orders_too }
quota_apart project (Some limits) s a = record { containers = a.containers; orders = a.orders; orders_too = a.orders_too }

pub change_apart : (part : Part) (change : Change) (kept : Kept) → IsRising kept.state → AreIdsApart kept.state → applies part change kept ≡ true → AreIdsApart (changed change kept).state
change_apart part (KeyAdded key) kept r a fits = a
change_apart part (KeyRewrapped key) kept r a fits = a
change_apart part (KeyDropped put) kept r a fits = a
change_apart part (TokenReplaced put) kept r a fits = secrets_apart kept.state a (λ x. is_id (id_at kept.state.tag put.secret) x.id) (token_replaced (put.number ∷ put.token)) (λ x. refl)
change_apart part (PayloadPut put) kept r a fits = secrets_apart kept.state a (λ x. is_id (id_at kept.state.tag put.secret) x.id) (with_payload put.updated (record { media = put.media; bytes = put.number ∷ put.token })) (λ x. refl)
change_apart part (MetadataPut put) kept r a fits = secrets_apart kept.state a (λ x. is_id (id_at kept.state.tag put.secret) x.id) (with_metadata put.updated put.pairs) (λ x. refl)
change_apart part (SecretPut put) kept r a fits =
    let s = kept.state in
    let row = row_of s.tag put in
    let f = fresh part s (secret_ids s) put.id fits r in
    let ids = ids_push (λ (x : SecretRow). x.id) s.secrets row in
    record {
      containers = subst (AreApart (container_ids s)) (sym ids) (push_right (container_ids s) (secret_ids s) row.id a.containers f.containers);
      orders = subst (AreApart (order_ids s)) (sym ids) (push_right (order_ids s) (secret_ids s) row.id a.orders f.orders);
      orders_too = a.orders_too;
    }
change_apart part (ContainerPut put) kept r a fits =
    let s = kept.state in
    let id = id_at s.tag put.id in
    elim (put_ids (λ (x : ContainerRow). x.id) part s s.containers (container_at s.tag put) put.id (may_replace_container put) refl r.containers (or_cases _ _ fits)) [
      | inl same ↦ record {
        containers = subst (λ (ids : List Id). AreApart ids (secret_ids s)) (sym same) a.containers;
        orders = a.orders;
        orders_too = subst (AreApart (order_ids s)) (sym same) a.orders_too;
      }
      | inr more ↦
          let f = fresh part s (container_ids s) put.id more.1 r in
          record {
            containers = subst (λ (ids : List Id). AreApart ids (secret_ids s)) (sym more.0) (all_push (IsOther (secret_ids s)) (container_ids s) id a.containers f.secrets);
            orders = a.orders;
            orders_too = subst (AreApart (order_ids s)) (sym more.0) (push_right (order_ids s) (container_ids s) id a.orders_too f.orders);
          }
    ]
change_apart part (OrderPut put) kept r a fits =
    let s = kept.state in
    let id = id_at s.tag put.id in
    elim (put_ids (λ (x : OrderRow). x.id) part s s.orders (order_at s.tag put) put.id (may_replace_order put) refl r.orders (or_cases _ _ (and_parts _ _ fits).0)) [
      | inl same ↦ record {
        containers = a.containers;
        orders = subst (λ (ids : List Id). AreApart ids (secret_ids s)) (sym same) a.orders;
        orders_too = subst (λ (ids : List Id). AreApart ids (container_ids s)) (sym same) a.orders_too;
      }
      | inr more ↦
          let f = fresh part s (order_ids s) put.id more.1 r in
          record {
            containers = a.containers;
            orders = subst (λ (ids : List Id). AreApart ids (secret_ids s)) (sym more.0) (all_push (IsOther (secret_ids s)) (order_ids s) id a.orders f.secrets);
            orders_too = subst (λ (ids : List Id). AreApart ids (container_ids s)) (sym more.0) (all_push (IsOther (container_ids s)) (order_ids s) id a.orders_too f.containers);
          }
    ]
change_apart part (ConsumerAdded put) kept r a fits = record { containers = a.containers; orders = a.orders; orders_too = a.orders_too }
change_apart part (ConsumerDropped put) kept r a fits = record { containers = a.containers; orders = a.orders; orders_too = a.orders_too }
change_apart part (AclPut put) kept r a fits = record { containers = a.containers; orders = a.orders; orders_too = a.orders_too }
change_apart part (AclDropped id) kept r a fits = record { containers = a.containers; orders = a.orders; orders_too = a.orders_too }
change_apart part (QuotaPut put) kept r a fits = quota_apart put.project put.limits kept.state a
change_apart part (Deleted id) kept r a fits =
    let s = kept.state in
    let gone = id_at s.tag id in
    let after = (changed (Deleted id) kept).state in
    let secret = λ (x : SecretRow). x.id in
    let container = λ (x : ContainerRow). x.id in
    let order = λ (x : OrderRow). x.id in
    record {
      containers = filter_left container (λ x. not (is_id gone x.id)) s.containers (secret_ids after) (filter_right secret (λ x. not (is_id gone x.id)) (container_ids s) s.secrets a.containers);
      orders = filter_left order (λ x. not (is_id gone x.id)) s.orders (secret_ids after) (filter_right secret (λ x. not (is_id gone x.id)) (order_ids s) s.secrets a.orders);
      orders_too = filter_left order (λ x. not (is_id gone x.id)) s.orders (container_ids after) (filter_right container (λ x. not (is_id gone x.id)) (order_ids s) s.containers a.orders_too);
    }
