-- An order that has its state stays as it is, whatever change applies, until it is deleted.
use Rattle.std.proofs.Common.{◌≡◌, ℕ, ◌<◌, true, false, not, cond, eqb, List, [], ◌∷◌, map, Option, Some, None, refl, sym, ap, subst, ◌∙◌, arith, inl, inr}
use Rattle.std.specs.List.{AllByRecursion}
use Rattle.std.proofs.lemmas.Bool.{cases_Bool, and_parts, or_cases, eqb-true, not_from_false}
use Rattle.kms_world.specs.declared.id.Id.{Id}
use Rattle.kms_world.specs.declared.order.OrderRow.{OrderRow}
use Rattle.kms_world.specs.declared.order.OrderState.{OrderState}
use Rattle.kms_world.specs.declared.order.OrderState.TheVariants as order_states
use Rattle.kms_world.specs.Id.{is_id}
use Rattle.kms_world.specs.Effect.{put_row}
use Rattle.kms_record.specs.declared.change.Change.{Change}
use Rattle.kms_record.specs.declared.change.Change.TheVariants.{KeyAdded, KeyRewrapped, TokenReplaced, KeyDropped, SecretPut, PayloadPut, MetadataPut, ContainerPut, ConsumerAdded, ConsumerDropped, AclPut, AclDropped, OrderPut, QuotaPut, Deleted}
use Rattle.kms_world.specs.Id.{id_at}
use Rattle.kms_record.specs.ChangeEffect.{order_at}
use Rattle.kms_record.specs.declared.order.OrderPut.{OrderPut as Order}
use Rattle.kms_world.specs.LookUp.{order_of}
use Rattle.kms_kept.specs.Kept.{Kept, Part, applies, changed, has, is_new, is_pending, is_named_once, may_replace_order, order_ids}
use Rattle.kms_kept.specs.Deletion.{Deletes}
use Rattle.kms_kept.specs.Rising.{IsRising}
use Rattle.kms_kept.proofs.KeptLists.{find_filter}
use Rattle.kms_kept.proofs.RisingLaws.{new_fits}
use Rattle.kms_kept.proofs.OrderKeeping.{quota_orders}

some_same : (x y : OrderRow) → (let o : Option OrderRow = Some x in let p : Option OrderRow = Some y in o ≡ p) → x ≡ y
some_same x y e = cc

-- a row of another id in its place changes no look-up
put_other : (id : Id) (row : OrderRow) (rows : List OrderRow) → is_id id row.id ≡ false → order_of id (put_row (λ r. is_id row.id r.id) row rows) ≡ order_of id rows
put_other id row [] apart = rw apart refl
put_other id row (x ∷ xs) apart = elim (cases_Bool (is_id row.id x.id)) [
  | inl t ↦
      let past : is_id id x.id ≡ false = ap (λ (n : ℕ). eqb n id.0) (eqb-true x.id.0 row.id.0 t) ∙ apart in
      rw (t, apart, past) refl
  | inr f ↦ rw f (ap (cond (is_id id x.id) (Some x)) (put_other id row xs apart))
]

found_below : (id : Id) (a : OrderRow) (rows : List OrderRow) → AllByRecursion (λ (other : Id). other.0 < id.0) (map (λ (r : OrderRow). r.id) rows) → order_of id rows ≡ Some a → ⊥
found_below id a [] below found = cc
found_below id a (x ∷ xs) below found = elim (cases_Bool (is_id id x.id)) [
  | inl t ↦ omega (arith, below.0, eqb-true x.id.0 id.0 t)
  | inr f ↦ found_below id a xs below.1 (rw f at found)
]

never : false ≡ true → ⊥
never e = cc

no_value : (x : OrderRow) → (let o : Option OrderRow = None in let p : Option OrderRow = Some x in o ≡ p) → ⊥
no_value x e = cc

first_part : (put : Order) (x : OrderRow) → may_replace_order put x ≡ true → is_pending x.state ≡ true
first_part put x h = elim (cases_Bool (is_pending x.state)) [ inl t ↦ t | inr f ↦ absurd (never (rw f at h)) ]

pending : (put : Order) (a : OrderRow) (o : Option OrderRow) → o ≡ Some a → has o (may_replace_order put) ≡ true → is_pending a.state ≡ true
pending put a None found h = absurd cc
pending put a (Some x) found h = subst (λ (z : OrderRow). is_pending z.state ≡ true) (some_same x a found) (first_part put x h)

not_pending : (state : OrderState) → (state ≡ order_states.Pending → ⊥) → is_pending state ≡ true → ⊥
not_pending order_states.Pending settled h = settled refl
not_pending (order_states.Active secret) settled h = cc
not_pending (order_states.Error cause) settled h = cc

same_id : (a b : Id) → a.0 ≡ b.0 → a ≡ b
same_id a b e = ap (λ (n : ℕ). let i : Id = record { 0 = n } in i) e

-- ---- an order that has its state

module _ (part : Part) (kept : Kept) (r : IsRising kept.state) (id : Id) (a : OrderRow) (before : order_of id kept.state.orders ≡ Some a) (settled : a.state ≡ order_states.Pending → ⊥) where
  put_stays : (put : Order) → applies part (OrderPut put) kept ≡ true → order_of id (changed (OrderPut put) kept).state.orders ≡ Some a
  put_stays put fits =
      let s = kept.state in
      let new = id_at s.tag put.id in
      elim (cases_Bool (is_id id new)) [
        | inl t ↦
            let same : new ≡ id = same_id new id (eqb-true new.0 id.0 t) in
            elim (or_cases (is_new part s (order_ids s) put.id) (has (order_of new s.orders) (may_replace_order put)) (and_parts _ (is_named_once s put.id put.state) fits).0) [
              | inl fresh ↦ absurd (found_below id a s.orders (subst (λ (i : Id). AllByRecursion (λ (other : Id). other.0 < i.0) (order_ids s)) same (new_fits part s (order_ids s) put.id fresh r.orders).above) before)
              | inr old ↦ absurd (not_pending a.state settled (pending put a (order_of new s.orders) (ap (λ (i : Id). order_of i s.orders) same ∙ before) old))
            ]
        | inr f ↦ put_other id (order_at s.tag put) s.orders f ∙ before
      ]

  others_stay : (count : ℕ) → (Deletes kept.state.tag id (Deleted count) → ⊥) → order_of id (changed (Deleted count) kept).state.orders ≡ Some a
  others_stay count apart =
      let gone = id_at kept.state.tag count in
      elim (cases_Bool (is_id gone id)) [
        | inl t ↦ absurd (apart (record { count = count; is = refl; of = same_id gone id (sym (eqb-true id.0 gone.0 t)) }))
        | inr f ↦ find_filter (λ r. is_id id r.id) (λ r. not (is_id gone r.id)) (λ x at. not_from_false (is_id gone x.id) (ap (λ (n : ℕ). eqb n gone.0) (eqb-true x.id.0 id.0 at) ∙ f)) kept.state.orders a before
      ]

  pub settled_stays : (change : Change) → applies part change kept ≡ true → (Deletes kept.state.tag id change → ⊥) → order_of id (changed change kept).state.orders ≡ Some a
  settled_stays (OrderPut put) fits apart = put_stays put fits
  settled_stays (Deleted count) fits apart = others_stay count apart
  settled_stays (KeyAdded key) fits apart = before
  settled_stays (KeyRewrapped key) fits apart = before
  settled_stays (TokenReplaced put) fits apart = before
  settled_stays (KeyDropped put) fits apart = before
  settled_stays (SecretPut put) fits apart = before
  settled_stays (PayloadPut put) fits apart = before
  settled_stays (MetadataPut put) fits apart = before
  settled_stays (ContainerPut put) fits apart = before
  settled_stays (ConsumerAdded put) fits apart = before
  settled_stays (ConsumerDropped put) fits apart = before
  settled_stays (AclPut put) fits apart = before
  settled_stays (AclDropped target) fits apart = before
  settled_stays (QuotaPut put) fits apart = ap (order_of id) (quota_orders put.project put.limits kept.state) ∙ before

-- ---- an order that goes

put_keeps : (id : Id) (a row : OrderRow) (rows : List OrderRow) → order_of id rows ≡ Some a → order_of id (put_row (λ r. is_id row.id r.id) row rows) ≡ None → ⊥
put_keeps id a row [] found gone = no_value a found
put_keeps id a row (x ∷ xs) found gone = elim (cases_Bool (is_id row.id x.id)) [
  | inl t ↦ elim (cases_Bool (is_id id x.id)) [
    | inl here ↦
        let there : is_id id row.id ≡ true = ap (λ (n : ℕ). eqb n id.0) (sym (eqb-true x.id.0 row.id.0 t)) ∙ here in
        no_value row (sym (rw (t, there) at gone))
    | inr past ↦
        let apart : is_id id row.id ≡ false = ap (λ (n : ℕ). eqb n id.0) (sym (eqb-true x.id.0 row.id.0 t)) ∙ past in
        no_value a (sym (rw (t, apart) at gone) ∙ (rw past at found))
  ]
  | inr f ↦ elim (cases_Bool (is_id id x.id)) [
    | inl here ↦ no_value x (sym (rw (f, here) at gone))
    | inr past ↦ put_keeps id a row xs (rw past at found) (rw (f, past) at gone)
  ]
]

deleted_goes : (kept : Kept) (id : Id) (a : OrderRow) (count : ℕ) → order_of id kept.state.orders ≡ Some a → order_of id (changed (Deleted count) kept).state.orders ≡ None → Deletes kept.state.tag id (Deleted count)
deleted_goes kept id a count before after =
    let gone = id_at kept.state.tag count in
    elim (cases_Bool (is_id gone id)) [
      | inl t ↦ record { count = count; is = refl; of = same_id gone id (sym (eqb-true id.0 gone.0 t)) }
      | inr f ↦
          let stays = find_filter (λ r. is_id id r.id) (λ r. not (is_id gone r.id)) (λ x at. not_from_false (is_id gone x.id) (ap (λ (n : ℕ). eqb n gone.0) (eqb-true x.id.0 id.0 at) ∙ f)) kept.state.orders a before in
          absurd (no_value a (sym after ∙ stays))
    ]

pub goes_where_deleted : (kept : Kept) (id : Id) (a : OrderRow) → order_of id kept.state.orders ≡ Some a → (change : Change) → order_of id (changed change kept).state.orders ≡ None → Deletes kept.state.tag id change
goes_where_deleted kept id a before (OrderPut put) after = absurd (put_keeps id a (order_at kept.state.tag put) kept.state.orders before after)
goes_where_deleted kept id a before (Deleted count) after = deleted_goes kept id a count before after
goes_where_deleted kept id a before (KeyAdded key) after = absurd (no_value a (sym after ∙ before))
goes_where_deleted kept id a before (KeyRewrapped key) after = absurd (no_value a (sym after ∙ before))
goes_where_deleted kept id a before (TokenReplaced put) after = absurd (no_value a (sym after ∙ before))
goes_where_deleted kept id a before (KeyDropped put) after = absurd (no_value a (sym after ∙ before))
goes_where_deleted kept id a before (SecretPut put) after = absurd (no_value a (sym after ∙ before))
goes_where_deleted kept id a before (PayloadPut put) after = absurd (no_value a (sym after ∙ before))
goes_where_deleted kept id a before (MetadataPut put) after = absurd (no_value a (sym after ∙ before))
goes_where_deleted kept id a before (ContainerPut put) after = absurd (no_value a (sym after ∙ before))
goes_where_deleted kept id a before (ConsumerAdded put) after = absurd (no_value a (sym after ∙ before))
goes_where_deleted kept id a before (ConsumerDropped put) after = absurd (no_value a (sym after ∙ before))
goes_where_deleted kept id a before (AclPut put) after = absurd (no_value a (sym after ∙ before))
goes_where_deleted kept id a before (AclDropped target) after = absurd (no_value a (sym after ∙ before))
goes_where_deleted kept id a before (QuotaPut put) after = absurd (no_value a (sym after ∙ ap (order_of id) (quota_orders put.project put.limits kept.state) ∙ before))
