-- What an event does to the orders: there are fewer, or one is new, or one is settled. Each leaves them apart.
use Rattle.std.proofs.Common.{◌≡◌, ◌⊎◌, inl, inr, ℕ, ◌+◌, ◌<◌, ◌≤◌, Bool, true, false, if◌then◌else◌, List, [], ◌∷◌, ◌++◌, map, refl, sym, ap, subst, ◌∙◌, arith}
use Rattle.std.specs.List.{Contains}
use Rattle.std.proofs.lemmas.Bool.{ne_eqb}
use Rattle.std.proofs.lemmas.List.Elements.{All-contains_itself, All-weaker, Contains-push_cases, recursion_from_All}
use Rattle.kms_world.specs.Effect.{put_row}
use Rattle.kms_world.specs.Id.{id_at, is_id}
use Rattle.kms_world.specs.State.{State}
use Rattle.kms_world.specs.declared.id.Id.{Id}
use Rattle.kms_world.specs.declared.order.OrderRow.{OrderRow}
use Rattle.kms_world.specs.declared.order.OrderState.{OrderState}
use Rattle.kms_world.specs.declared.order.OrderState.TheVariants.{Pending, Active, Error}
use Rattle.kms_model.specs.OrderLaw.{AreOrdersApart, MadeFor, WasGiven}
use Rattle.kms_model.specs.Secrets.{next_id}
use Rattle.kms_model.specs.Worker.{with_order}
use Rattle.kms_model.proofs.OrderStaying.{from_map, put_last}
use Rattle.kms_model.proofs.PayloadReading.{same_id}
use Rattle.kms_model.proofs.SecretLaws.{one_id}

pub record IsFewer (s after : State) : Type 0 where
  pub tag : after.tag ≡ s.tag
  pub ids : s.ids ≤ after.ids
  pub from : (p : OrderRow) → Contains after.orders p → Contains s.orders p

pub record IsMore (s after : State) : Type 0 where
  pub row : OrderRow
  pub is_next : row.id ≡ next_id s
  pub pending : row.state ≡ Pending
  pub tag : after.tag ≡ s.tag
  pub ids : after.ids ≡ s.ids + 1
  pub orders : after.orders ≡ put_row (λ r. is_id row.id r.id) row s.orders

abbrev pub settled_row : OrderState → ℕ → OrderRow → OrderRow
settled_row state t o = record o { state = state; updated = t }

-- where it is done, it names the next id, which is its secret's
pub record IsSettled (s after : State) : Type 0 where
  pub order : OrderRow
  pub there : Contains s.orders order
  pub pending : order.state ≡ Pending
  pub state : OrderState
  pub time : ℕ
  pub tag : after.tag ≡ s.tag
  pub ids : s.ids ≤ after.ids
  pub orders : after.orders ≡ map (with_order order.id state time) s.orders
  pub fresh : (id : Id) → state ≡ Active id → (id ≡ next_id s) × (s.ids < after.ids)
  pub made : (id : Id) → state ≡ Active id → MadeFor s after order (settled_row state time order) id

-- ---- states of orders

pub pending_is_not : (state : OrderState) (id : Id) → state ≡ Pending → state ≡ Active id → ⊥
pending_is_not Pending id is done = cc
pending_is_not (Active other) id is done = cc
pending_is_not (Error cause) id is done = cc

-- ---- ids

pub later_given : (s after : State) (id : Id) → after.tag ≡ s.tag → s.ids ≤ after.ids → WasGiven s id → WasGiven after id
later_given s after id tag ids given =
    let lt = given.1 in
    (given.0, omega (arith, ids, lt), subst (λ (t : ℕ). id ≡ id_at t given.0) (sym tag) given.2)

pub new_given : (s after : State) (id : Id) → after.tag ≡ s.tag → s.ids < after.ids → id ≡ next_id s → WasGiven after id
new_given s after id tag lt is = (s.ids, lt, subst (λ (t : ℕ). id ≡ id_at t s.ids) (sym tag) is)

pub not_next : (s : State) (id : Id) → WasGiven s id → id ≡ next_id s → ⊥
not_next s id given is =
    let same : (id_at s.tag given.0).0 ≡ (id_at s.tag s.ids).0 = ap (λ (i : Id). i.0) (sym given.2 ∙ is) in
    let lt = given.1 in
    absurd (omega (arith, same, lt))

pub same_number : (a b : Id) → a.0 ≡ b.0 → a ≡ b
same_number a b e = ap (λ (n : ℕ). let i : Id = record { 0 = n } in i) e

-- ---- fewer

pub apart_fewer : (s after : State) → IsFewer s after → AreOrdersApart s → AreOrdersApart after
apart_fewer s after f apart = record {
  given = λ o is. later_given s after o.id f.tag f.ids (apart.given o (f.from o is));
  one = λ o p is also. apart.one o p (f.from o is) (f.from p also);
  named = λ o id is names. later_given s after id f.tag f.ids (apart.named o id (f.from o is) names);
  own = λ o p id is also. apart.own o p id (f.from o is) (f.from p also);
}

-- ---- one more

not_among : (s after : State) (m : IsMore s after) (r : OrderRow) → AreOrdersApart s → Contains s.orders r → is_id m.row.id r.id ≡ false
not_among s after m r apart is = ne_eqb r.id.0 m.row.id.0 (λ e. not_next s r.id (apart.given r is) (same_number r.id m.row.id e ∙ m.is_next))

pub one_more : (s after : State) (m : IsMore s after) → AreOrdersApart s → after.orders ≡ s.orders ++ m.row ∷ []
one_more s after m apart =
    m.orders ∙ put_last (λ (r : OrderRow). is_id m.row.id r.id) m.row s.orders
    (recursion_from_All (λ (r : OrderRow). is_id m.row.id r.id ≡ false) s.orders
    (All-weaker (Contains s.orders) (λ (r : OrderRow). is_id m.row.id r.id ≡ false) (λ r is. not_among s after m r apart is) s.orders (All-contains_itself s.orders)))

pub more_from : (s after : State) (m : IsMore s after) → AreOrdersApart s → (p : OrderRow) → Contains after.orders p → Contains s.orders p ⊎ (m.row ≡ p)
more_from s after m apart p is = Contains-push_cases s.orders m.row p (subst (λ (l : List OrderRow). Contains l p) (one_more s after m apart) is)

-- an order of before doesn't have the id of the new one
no_older : (s after : State) (m : IsMore s after) (o : OrderRow) → AreOrdersApart s → Contains s.orders o → (p : OrderRow) → m.row ≡ p → p.id ≡ o.id → ⊥
no_older s after m o apart is p new same = not_next s o.id (apart.given o is) (sym same ∙ ap (λ (r : OrderRow). r.id) (sym new) ∙ m.is_next)

-- the new one names none
no_name : (s after : State) (m : IsMore s after) (p : OrderRow) (id : Id) → m.row ≡ p → p.state ≡ Active id → ⊥
no_name s after m p id new names = pending_is_not p.state id (ap (λ (r : OrderRow). r.state) (sym new) ∙ m.pending) names

pub apart_more : (s after : State) → IsMore s after → AreOrdersApart s → AreOrdersApart after
apart_more s after m apart = record {
  given = λ o is. elim (from o is) [
    | inl old ↦ later_given s after o.id m.tag grows (apart.given o old)
    | inr new ↦ new_given s after o.id m.tag (let e = m.ids in omega (arith, e)) (ap (λ (r : OrderRow). r.id) (sym new) ∙ m.is_next)
  ];
  one = λ o p is also same. one o p same (from o is) (from p also);
  named = λ o id is names. elim (from o is) [
    | inl old ↦ later_given s after id m.tag grows (apart.named o id old names)
    | inr new ↦ absurd (no_name s after m o id new names)
  ];
  own = λ o p id is also first second. own o p id first second (from o is) (from p also);
}
  where
    grows : s.ids ≤ after.ids
    grows = let e = m.ids in omega (arith, e)

    from : (p : OrderRow) → Contains after.orders p → Contains s.orders p ⊎ (m.row ≡ p)
    from = more_from s after m apart

    one : (o p : OrderRow) → p.id ≡ o.id → Contains s.orders o ⊎ (m.row ≡ o) → Contains s.orders p ⊎ (m.row ≡ p) → p ≡ o
    one o p same (inl a) (inl b) = apart.one o p a b same
    one o p same (inl a) (inr b) = absurd (no_older s after m o apart a p b same)
    one o p same (inr a) (inl b) = absurd (no_older s after m p apart b o a (sym same))
    one o p same (inr a) (inr b) = sym b ∙ a

    own : (o p : OrderRow) (id : Id) → o.state ≡ Active id → p.state ≡ Active id → Contains s.orders o ⊎ (m.row ≡ o) → Contains s.orders p ⊎ (m.row ≡ p) → p.id ≡ o.id
    own o p id first second (inl a) (inl b) = apart.own o p id a b first second
    own o p id first second (inl a) (inr b) = absurd (no_name s after m p id b second)
    own o p id first second (inr a) b = absurd (no_name s after m o id a first)

-- ---- one that is settled

-- it is the order, or it is as it was
abbrev pub IsOneOf : Id → OrderState → ℕ → OrderRow → OrderRow → Type 0
IsOneOf id state t o p = ((o.id ≡ id) × (p ≡ settled_row state t o)) ⊎ ((o.id ≡ id → ⊥) × (p ≡ o))

pub one_of : (id : Id) (state : OrderState) (t : ℕ) (o : OrderRow) (b : Bool) → is_id id o.id ≡ b → IsOneOf id state t o (if b then settled_row state t o else o)
one_of id state t o true is = inl (one_id id o.id is, refl)
one_of id state t o false is = inr (λ same. other same, refl)
  where
    other : o.id ≡ id → ⊥
    other same = no (sym is ∙ ap (λ (i : Id). is_id id i) same ∙ same_id id)
      where
        no : false ≡ true → ⊥
        no e = cc

-- the order of before that an order of afterwards was
pub record WasOne (s after : State) (x : IsSettled s after) (p : OrderRow) : Type 0 where
  pub was : OrderRow
  pub there : Contains s.orders was
  pub same : p.id ≡ was.id
  pub is : IsOneOf x.order.id x.state x.time was p

pub id_of_one : (id : Id) (state : OrderState) (t : ℕ) (o p : OrderRow) → IsOneOf id state t o p → p.id ≡ o.id
id_of_one id state t o p (inl at) = ap (λ (r : OrderRow). r.id) at.1
id_of_one id state t o p (inr as_it_was) = ap (λ (r : OrderRow). r.id) as_it_was.1

pub was_one : (s after : State) (x : IsSettled s after) (p : OrderRow) → Contains after.orders p → WasOne s after x p
was_one s after x p is =
    let f = with_order x.order.id x.state x.time in
    let from = from_map f s.orders p (subst (λ (l : List OrderRow). Contains l p) x.orders is) in
    let each : IsOneOf x.order.id x.state x.time from.0 p =
    subst (IsOneOf x.order.id x.state x.time from.0) (sym from.2) (one_of x.order.id x.state x.time from.0 (is_id x.order.id from.0.id) refl) in
    record { was = from.0; there = from.1; same = id_of_one x.order.id x.state x.time from.0 p each; is = each }

pub apart_settled : (s after : State) → IsSettled s after → AreOrdersApart s → AreOrdersApart after
apart_settled s after x apart = record {
  given = λ o is. let w = was_one s after x o is in subst (WasGiven after) (sym w.same) (later_given s after w.was.id x.tag x.ids (apart.given w.was w.there));
  one = λ o p is also same. one o p same (was_one s after x o is) (was_one s after x p also);
  named = λ o id is names. named o id names (was_one s after x o is);
  own = λ o p id is also first second. own o p id first second (was_one s after x o is) (was_one s after x p also);
}
  where
    names_new : (id : Id) → x.state ≡ Active id → WasGiven after id
    names_new id names = let new = x.fresh id names in new_given s after id x.tag new.1 new.0

    same_one : (o p a b : OrderRow) → b ≡ a → IsOneOf x.order.id x.state x.time a o → IsOneOf x.order.id x.state x.time b p → p ≡ o
    same_one o p a b e (inl h) (inl k) = k.1 ∙ ap (settled_row x.state x.time) e ∙ sym h.1
    same_one o p a b e (inl h) (inr k) = absurd (k.0 (ap (λ (r : OrderRow). r.id) e ∙ h.0))
    same_one o p a b e (inr h) (inl k) = absurd (h.0 (ap (λ (r : OrderRow). r.id) (sym e) ∙ k.0))
    same_one o p a b e (inr h) (inr k) = k.1 ∙ e ∙ sym h.1

    one : (o p : OrderRow) → p.id ≡ o.id → WasOne s after x o → WasOne s after x p → p ≡ o
    one o p same v w = same_one o p v.was w.was (apart.one v.was w.was v.there w.there (sym w.same ∙ same ∙ v.same)) v.is w.is

    named_by : (o w : OrderRow) (id : Id) → o.state ≡ Active id → Contains s.orders w → IsOneOf x.order.id x.state x.time w o → WasGiven after id
    named_by o w id names there (inl h) = names_new id (ap (λ (r : OrderRow). r.state) (sym h.1) ∙ names)
    named_by o w id names there (inr h) = later_given s after id x.tag x.ids (apart.named w id there (ap (λ (r : OrderRow). r.state) (sym h.1) ∙ names))

    named : (o : OrderRow) (id : Id) → o.state ≡ Active id → WasOne s after x o → WasGiven after id
    named o id names w = named_by o w.was id names w.there w.is

    clash : (w : OrderRow) (id : Id) → Contains s.orders w → w.state ≡ Active id → x.state ≡ Active id → ⊥
    clash w id there names also = not_next s id (apart.named w id there names) (x.fresh id also).0

    own_by : (o p v w : OrderRow) (id : Id) → o.state ≡ Active id → p.state ≡ Active id → Contains s.orders v → Contains s.orders w
        → IsOneOf x.order.id x.state x.time v o → IsOneOf x.order.id x.state x.time w p → w.id ≡ v.id
    own_by o p v w id first second a b (inl h) (inl k) = k.0 ∙ sym h.0
    own_by o p v w id first second a b (inl h) (inr k) = absurd (clash w id b (ap (λ (r : OrderRow). r.state) (sym k.1) ∙ second) (ap (λ (r : OrderRow). r.state) (sym h.1) ∙ first))
    own_by o p v w id first second a b (inr h) (inl k) = absurd (clash v id a (ap (λ (r : OrderRow). r.state) (sym h.1) ∙ first) (ap (λ (r : OrderRow). r.state) (sym k.1) ∙ second))
    own_by o p v w id first second a b (inr h) (inr k) = apart.own v w id a b (ap (λ (r : OrderRow). r.state) (sym h.1) ∙ first) (ap (λ (r : OrderRow). r.state) (sym k.1) ∙ second)

    own : (o p : OrderRow) (id : Id) → o.state ≡ Active id → p.state ≡ Active id → WasOne s after x o → WasOne s after x p → p.id ≡ o.id
    own o p id first second v w = w.same ∙ own_by o p v.was w.was id first second v.there w.there v.is w.is ∙ sym v.same
