-- Ids rise in each table, whatever change applies.
use Rattle.std.proofs.Common.{◌≡◌, ◌⊎◌, ℕ, ◌+◌, ◌<◌, ◌≤◌, Bool, true, false, not, cond, eqb, ltb, List, [], ◌∷◌, ◌++◌, map, Option, Some, None, refl, sym, ap, subst, ◌∙◌, arith, inl, inr}
use Rattle.std.specs.Prelude.{find, filter}
use Rattle.std.specs.List.{AllByRecursion, list_all}
use Rattle.std.proofs.lemmas.Bool.{cases_Bool, and_parts, or_cases, eqb-true, eq-eqb, ltb-true}
use Rattle.kms_world.specs.Id.{id_number}
use Rattle.kms_world.specs.State.{State}
use Rattle.kms_world.specs.declared.id.Id.{Id}
use Rattle.kms_world.specs.declared.secret.SecretRow.{SecretRow}
use Rattle.kms_world.specs.declared.container.ContainerRow.{ContainerRow}
use Rattle.kms_world.specs.declared.order.OrderRow.{OrderRow}
use Rattle.kms_record.specs.SecretPut.{row_of}
use Rattle.kms_world.specs.Effect.{after_effect}
use Rattle.kms_record.specs.ChangeEffect.{quota_effect}
use Rattle.kms_record.specs.declared.quota.QuotaLimits.{QuotaLimits}
use Rattle.kms_world.specs.Id.{is_id}
use Rattle.kms_world.specs.Effect.{put_row, ids_with, with_payload, with_metadata}
use Rattle.kms_record.specs.declared.change.Change.{Change}
use Rattle.kms_record.specs.declared.change.Change.TheVariants.{KeyAdded, KeyRewrapped, TokenReplaced, KeyDropped, SecretPut, PayloadPut, MetadataPut, ContainerPut, ConsumerAdded, ConsumerDropped, AclPut, AclDropped, OrderPut, QuotaPut, Deleted}
use Rattle.kms_world.specs.Id.{id_at}
use Rattle.kms_record.specs.ChangeEffect.{container_at, order_at}
use Rattle.kms_kept.specs.Kept.{Kept, Part, Records, Base, applies, changed, has, is_new, token_replaced, may_replace_container, may_replace_order, secret_ids, container_ids, order_ids}
use Rattle.kms_kept.specs.Rising.{IsGiven, Rises, IsRising}
use Rattle.kms_kept.proofs.KeptLists.{all_passed, all_to}

id_less : (tag a b : ℕ) → a < b → id_number tag a < id_number tag b
id_less tag a b lt = omega (arith, lt)

pub given_below : (tag n : ℕ) (id : Id) → IsGiven tag n id → id.0 < id_number tag n
given_below tag n id g = rw g.is (id_less tag g.count n g.below)

pub given_later : (tag a b : ℕ) (id : Id) → a ≤ b → IsGiven tag a id → IsGiven tag b id
given_later tag a b id le g = record { count = g.count; below = omega (arith, le, g.below); is = g.is }

rises_later : (tag a b : ℕ) (ids : List Id) → a ≤ b → Rises tag a ids → Rises tag b ids
rises_later tag a b [] le r = tt
rises_later tag a b (id ∷ ids) le r = (given_later tag a b id le r.0, r.1, rises_later tag a b ids le r.2)

pub below_all : (tag n : ℕ) (ids : List Id) → Rises tag n ids → AllByRecursion (λ (other : Id). other.0 < id_number tag n) ids
below_all tag n [] r = tt
below_all tag n (id ∷ ids) r = (given_below tag n id r.0, below_all tag n ids r.2)

all_and : (P : Id → Type 0) (ids : List Id) (id : Id) → AllByRecursion P ids → P id → AllByRecursion P (ids ++ id ∷ [])
all_and P [] id each last = (last, tt)
all_and P (x ∷ xs) id each last = (each.0, all_and P xs id each.1 last)

pub rises_push : (tag a b : ℕ) (ids : List Id) (id : Id) → Rises tag a ids → AllByRecursion (λ (other : Id). other.0 < id.0) ids → IsGiven tag b id → a ≤ b → Rises tag b (ids ++ id ∷ [])
rises_push tag a b [] id r below given le = (given, tt, tt)
rises_push tag a b (x ∷ xs) id r below given le = (given_later tag a b x le r.0, all_and (λ (other : Id). x.0 < other.0) xs id r.1 below.0, rises_push tag a b xs id r.2 below.1 given le)

with_step : (b : Bool) (n : ℕ) → n ≤ cond b (n + 1) n
with_step true n = omega arith
with_step false n = omega arith

pub ids_more : (id : Id) (s : State) → s.ids ≤ ids_with id s
ids_more id s = with_step (eqb id.0 (id_number s.tag s.ids)) s.ids

pub ids_next : (s : State) (count : ℕ) → count ≡ s.ids → ids_with (id_at s.tag count) s ≡ s.ids + 1
ids_next s count e = rw (eq-eqb (id_number s.tag count) (id_number s.tag s.ids) (ap (id_number s.tag) e)) refl

pub one_id : (a b : Id) → a.0 ≡ b.0 → a ≡ b
one_id a b e = ap (λ (n : ℕ). let i : Id = record { 0 = n } in i) e

-- ---- rows

module _ {X : Type 0} (id_of : X → Id) where
  ids_of : List X → List Id
  ids_of rows = map id_of rows

  pub kept_all : (P : Id → Type 0) (keep : X → Bool) (rows : List X) → AllByRecursion P (map id_of rows) → AllByRecursion P (map id_of (filter keep rows))
  kept_all P keep [] each = tt
  kept_all P keep (x ∷ xs) each = elim (cases_Bool (keep x)) [
    | inl t ↦ rw t (each.0, kept_all P keep xs each.1)
    | inr f ↦ rw f (kept_all P keep xs each.1)
  ]

  pub rises_filter : (tag n : ℕ) (keep : X → Bool) (rows : List X) → Rises tag n (map id_of rows) → Rises tag n (map id_of (filter keep rows))
  rises_filter tag n keep [] r = tt
  rises_filter tag n keep (x ∷ xs) r = elim (cases_Bool (keep x)) [
    | inl t ↦ rw t (r.0, kept_all (λ (other : Id). (id_of x).0 < other.0) keep xs r.1, rises_filter tag n keep xs r.2)
    | inr f ↦ rw f (rises_filter tag n keep xs r.2)
  ]

  pub same_ids : (g : X → X) → ((x : X) → id_of (g x) ≡ id_of x) → (rows : List X) → map id_of (map g rows) ≡ map id_of rows
  same_ids g same [] = refl
  same_ids g same (x ∷ xs) = ap (λ (i : Id). i ∷ map id_of (map g xs)) (same x) ∙ ap (λ (is : List Id). id_of x ∷ is) (same_ids g same xs)

  pub ids_push : (rows : List X) (row : X) → map id_of (rows ++ row ∷ []) ≡ map id_of rows ++ id_of row ∷ []
  ids_push [] row = refl
  ids_push (x ∷ xs) row = ap (λ (is : List Id). id_of x ∷ is) (ids_push xs row)

  -- a row in the place of one with its id
  pub in_place : (p : X → Bool) (row : X) (rows : List X) → has (find (λ r. is_id (id_of row) (id_of r)) rows) p ≡ true → map id_of (put_row (λ r. is_id (id_of row) (id_of r)) row rows) ≡ map id_of rows
  in_place p row [] h = absurd cc
  in_place p row (x ∷ xs) h = elim (cases_Bool (is_id (id_of row) (id_of x))) [
    | inl t ↦ rw t (ap (λ (i : Id). i ∷ map id_of xs) (sym (one_id (id_of x) (id_of row) (eqb-true (id_of x).0 (id_of row).0 t))))
    | inr f ↦ rw f (ap (λ (is : List Id). id_of x ∷ is) (in_place p row xs (rw f at h)))
  ]

  -- a row whose id is above all
  pub put_last : (row : X) (rows : List X) → AllByRecursion (λ (other : Id). other.0 < (id_of row).0) (map id_of rows) → map id_of (put_row (λ r. is_id (id_of row) (id_of r)) row rows) ≡ map id_of rows ++ id_of row ∷ []
  put_last row [] below = refl
  put_last row (x ∷ xs) below = elim (cases_Bool (is_id (id_of row) (id_of x))) [
    | inl t ↦ absurd (omega (arith, below.0, eqb-true (id_of x).0 (id_of row).0 t))
    | inr f ↦ rw f (ap (λ (is : List Id). id_of x ∷ is) (put_last row xs below.1))
  ]

-- what a new id is
pub record Fits (s : State) (own : List Id) (count : ℕ) : Type 0 where
  pub above : AllByRecursion (λ (other : Id). other.0 < id_number s.tag count) own
  pub below : count < ids_with (id_at s.tag count) s

pub new_fits : (part : Part) (s : State) (own : List Id) (count : ℕ) → is_new part s own count ≡ true → Rises s.tag s.ids own → Fits s own count
new_fits Records s own count h r =
    let e = eqb-true count s.ids (and_parts _ _ h).0 in
    record {
      above = subst (λ (n : ℕ). AllByRecursion (λ (other : Id). other.0 < id_number s.tag n) own) (sym e) (below_all s.tag s.ids own r);
      below = omega (arith, e, ids_next s count e);
    }
new_fits Base s own count h r =
    let front : (ltb count s.ids ≡ true) × (list_all (λ (other : Id). ltb other.0 (id_number s.tag count)) own ≡ true) = and_parts _ _ (and_parts _ _ h).0 in
    record {
      above = all_to _ _ (λ (other : Id) e. ltb-true other.0 (id_number s.tag count) e) own (all_passed (λ (other : Id). ltb other.0 (id_number s.tag count)) own front.1);
      below = omega (arith, ltb-true count s.ids front.0, ids_more (id_at s.tag count) s);
    }

-- ---- states

module _ (s : State) (r : IsRising s) where
  -- the other tables stand as they were, where more ids are given
  ids_later : (id : Id) (ids : List Id) → Rises s.tag s.ids ids → Rises s.tag (ids_with id s) ids
  ids_later id ids rises = rises_later s.tag s.ids (ids_with id s) ids (ids_more id s) rises

  pushed : (ids : List Id) (count : ℕ) → Rises s.tag s.ids ids → Fits s ids count → Rises s.tag (ids_with (id_at s.tag count) s) (ids ++ id_at s.tag count ∷ [])
  pushed ids count rises f =
      rises_push s.tag s.ids (ids_with (id_at s.tag count) s) ids (id_at s.tag count) rises f.above (record { count = count; below = f.below; is = refl }) (ids_more (id_at s.tag count) s)

  put_rises : {X : Type 0} (id_of : X → Id) (rows : List X) (row : X) (count : ℕ) (part : Part) (p : X → Bool) → id_of row ≡ id_at s.tag count → Rises s.tag s.ids (map id_of rows)
      → (is_new part s (map id_of rows) count ≡ true) ⊎ (has (find (λ r. is_id (id_of row) (id_of r)) rows) p ≡ true)
      → Rises s.tag (ids_with (id_of row) s) (map id_of (put_row (λ r. is_id (id_of row) (id_of r)) row rows))
  put_rises {X} id_of rows row count part p is rises way =
      elim way [
        | inl new ↦
            let f = new_fits part s (map id_of rows) count new rises in
            let above : AllByRecursion (λ (other : Id). other.0 < (id_of row).0) (map id_of rows) = subst (λ (i : Id). AllByRecursion (λ (other : Id). other.0 < i.0) (map id_of rows)) (sym is) f.above in
            subst (λ (ids : List Id). Rises s.tag (ids_with (id_of row) s) ids) (sym (put_last id_of row rows above))
            (subst (λ (i : Id). Rises s.tag (ids_with i s) (map id_of rows ++ i ∷ [])) (sym is) (pushed (map id_of rows) count rises f))
        | inr old ↦
            subst (λ (ids : List Id). Rises s.tag (ids_with (id_of row) s) ids) (sym (in_place id_of p row rows old)) (ids_later (id_of row) (map id_of rows) rises)
      ]

pub changed_id : (b : Bool) (f : SecretRow → SecretRow) (x : SecretRow) → (f x).id ≡ x.id → (cond b (f x) x).id ≡ x.id
changed_id true f x e = e
changed_id false f x e = refl

secrets_changed : (s : State) → IsRising s → (test : SecretRow → Bool) (f : SecretRow → SecretRow) → ((x : SecretRow) → (f x).id ≡ x.id)
    → (let after : State = record s { secrets = map (λ x. cond (test x) (f x) x) s.secrets } in IsRising after)
secrets_changed s r test f same = record {
  secrets = subst (λ (ids : List Id). Rises s.tag s.ids ids) (sym (same_ids (λ (x : SecretRow). x.id) (λ x. cond (test x) (f x) x) (λ x. changed_id (test x) f x (same x)) s.secrets)) r.secrets;
  containers = r.containers;
  orders = r.orders;
}

quota_keeps : (project : List ℕ) (limits : Option QuotaLimits) (s : State) → IsRising s → IsRising (after_effect (quota_effect project limits) s)
quota_keeps project None s r = record { secrets = r.secrets; containers = r.containers; orders = r.orders }
quota_keeps project (Some limits) s r = record { secrets = r.secrets; containers = r.containers; orders = r.orders }

pub change_rises : (part : Part) (change : Change) (kept : Kept) → IsRising kept.state → applies part change kept ≡ true → IsRising (changed change kept).state
change_rises part (KeyAdded key) kept r fits = r
change_rises part (KeyRewrapped key) kept r fits = r
change_rises part (TokenReplaced put) kept r fits = secrets_changed kept.state r (λ x. is_id (id_at kept.state.tag put.secret) x.id) (token_replaced (put.number ∷ put.token)) (λ x. refl)
change_rises part (KeyDropped put) kept r fits = r
change_rises part (SecretPut put) kept r fits =
    let s = kept.state in
    let row = row_of s.tag put in
    record {
      secrets = subst (λ (ids : List Id). Rises s.tag (ids_with row.id s) ids) (sym (ids_push (λ (x : SecretRow). x.id) s.secrets row))
          (pushed s r (secret_ids s) put.id r.secrets (new_fits part s (secret_ids s) put.id fits r.secrets));
      containers = ids_later s r row.id (container_ids s) r.containers;
      orders = ids_later s r row.id (order_ids s) r.orders;
    }
change_rises part (PayloadPut put) kept r fits = secrets_changed kept.state r (λ x. is_id (id_at kept.state.tag put.secret) x.id) (with_payload put.updated (record { media = put.media; bytes = put.number ∷ put.token })) (λ x. refl)
change_rises part (MetadataPut put) kept r fits = secrets_changed kept.state r (λ x. is_id (id_at kept.state.tag put.secret) x.id) (with_metadata put.updated put.pairs) (λ x. refl)
change_rises part (ContainerPut put) kept r fits =
    let s = kept.state in
    let row = container_at s.tag put in
    record {
      secrets = ids_later s r row.id (secret_ids s) r.secrets;
      containers = put_rises s r (λ (x : ContainerRow). x.id) s.containers row put.id part (may_replace_container put) refl r.containers (or_cases _ _ fits);
      orders = ids_later s r row.id (order_ids s) r.orders;
    }
change_rises part (ConsumerAdded put) kept r fits = record { secrets = r.secrets; containers = r.containers; orders = r.orders }
change_rises part (ConsumerDropped put) kept r fits = record { secrets = r.secrets; containers = r.containers; orders = r.orders }
change_rises part (AclPut put) kept r fits = record { secrets = r.secrets; containers = r.containers; orders = r.orders }
change_rises part (AclDropped id) kept r fits = record { secrets = r.secrets; containers = r.containers; orders = r.orders }
change_rises part (OrderPut put) kept r fits =
    let s = kept.state in
    let row = order_at s.tag put in
    record {
      secrets = ids_later s r row.id (secret_ids s) r.secrets;
      containers = ids_later s r row.id (container_ids s) r.containers;
      orders = put_rises s r (λ (x : OrderRow). x.id) s.orders row put.id part (may_replace_order put) refl r.orders (or_cases _ _ (and_parts _ _ fits).0);
    }
change_rises part (QuotaPut put) kept r fits = quota_keeps put.project put.limits kept.state r
change_rises part (Deleted id) kept r fits =
    let s = kept.state in
    let gone = id_at s.tag id in
    record {
      secrets = rises_filter (λ (x : SecretRow). x.id) s.tag s.ids (λ x. not (is_id gone x.id)) s.secrets r.secrets;
      containers = rises_filter (λ (x : ContainerRow). x.id) s.tag s.ids (λ x. not (is_id gone x.id)) s.containers r.containers;
      orders = rises_filter (λ (x : OrderRow). x.id) s.tag s.ids (λ x. not (is_id gone x.id)) s.orders r.orders;
    }
