-- What a turn of a worker does to the orders: it settles a pending one, or does nothing to them; and one that is done has its secret.
use Rattle.std.proofs.Common.{◌≡◌, ◌⊎◌, inl, inr, ℕ, ◌/◌, ◌<◌, Bool, true, false, not, if◌then◌else◌, List, length, map, Option, Some, None, refl, sym, ap, subst, ◌∙◌, arith}
use Rattle.std.specs.Prelude.{find}
use Rattle.std.specs.List.{Contains, list_any}
use Rattle.std.proofs.lemmas.Bool.{and_parts, not-true}
use Rattle.kms_world.specs.Id.{is_id}
use Rattle.kms_world.specs.LookUp.{order_of}
use Rattle.kms_world.specs.State.{State}
use Rattle.kms_world.specs.declared.id.Id.{Id}
use Rattle.kms_world.specs.declared.order.Cause.{Cause}
use Rattle.kms_world.specs.declared.order.Cause.TheVariants.{Unsupported, QuotaReached, IdsSpent}
use Rattle.kms_world.specs.declared.order.OrderRow.{OrderRow}
use Rattle.kms_world.specs.declared.order.OrderState.{OrderState}
use Rattle.kms_world.specs.declared.order.OrderState.TheVariants.{Pending, Active, Error}
use Rattle.kms_model.specs.OrderLaw.{AreOrdersApart, MadeFor, NextOrders, SameOrder}
use Rattle.kms_model.specs.Pool.{HoldsWell, IsHeld, IsKeyFor}
use Rattle.kms_model.specs.Secrets.{has_id, next_id}
use Rattle.kms_model.specs.Worker.{Turn, Worker, draws_for, holds, is_full, is_offered, is_open, is_pending, makes, state_turned, takes, turn_with, with_order}
use Rattle.kms_model.specs.Worker.Turn.{Idle, Took, Gone, Failed, Drew, Made}
use Rattle.kms_model.specs.Worker.Worker.{Free, Taken, Drawn}
use Rattle.kms_model.proofs.OrderMoves.{IsFewer, IsMore, IsOneOf, IsSettled, WasOne, more_from, pending_is_not, id_of_one, one_of, settled_row, was_one}
use Rattle.kms_model.proofs.OrderStaying.{found_there, to_map}
use Rattle.kms_model.proofs.PayloadReading.{same_id}
use Rattle.kms_model.proofs.SecretLaws.{found_passes, one_id}

-- a pending order
pub record IsAtHand (s : State) (o : OrderRow) : Type 0 where
  pub there : Contains s.orders o
  pub pending : o.state ≡ Pending

-- what the case of a worker's turn says of the order that it is about
abbrev pub Means : State → List Worker → Worker → Turn → Type 0
Means s pool v Idle = Unit {0}
Means s pool v (Took o) = IsAtHand s o × (list_any (holds o.id) pool ≡ false)
Means s pool v Gone = Unit {0}
Means s pool v (Failed o cause) = IsAtHand s o × (holds o.id v ≡ true)
Means s pool v (Drew o) = IsAtHand s o × (holds o.id v ≡ true) × (is_offered o ≡ true)
Means s pool v (Made o key) = IsAtHand s o × (holds o.id v ≡ true) × (length key ≡ o.bit_length / 8)

was_pending : (state : OrderState) → is_pending state ≡ true → state ≡ Pending
was_pending Pending is = refl
was_pending (Active id) is = absurd cc
was_pending (Error cause) is = absurd cc

took_means : (s : State) (pool : List Worker) (found : Option OrderRow) → find (is_open pool) s.orders ≡ found → Means s pool Free (takes found)
took_means s pool None is = tt
took_means s pool (Some o) is =
    let opened = and_parts (is_pending o.state) (not (list_any (holds o.id) pool)) (found_passes (is_open pool) s.orders o is) in
    (record { there = found_there (is_open pool) s.orders o is; pending = was_pending o.state opened.0 }, not-true (list_any (holds o.id) pool) opened.1)

-- the order that a worker holds, where it is there
held_one : (s : State) (id : Id) (o : OrderRow) → IsHeld s id → order_of id s.orders ≡ Some o → IsAtHand s o × (is_id o.id id ≡ true)
held_one s id o held is =
    let there = found_there (λ (r : OrderRow). is_id id r.id) s.orders o is in
    let same = one_id id o.id (found_passes (λ (r : OrderRow). is_id id r.id) s.orders o is) in
    (record { there = there; pending = held.pending o there same }, subst (λ (i : Id). is_id o.id i ≡ true) same (same_id o.id))

drew_means : (s : State) (pool : List Worker) (id : Id) (found : Option OrderRow) → IsHeld s id → order_of id s.orders ≡ found → Means s pool (Taken id) (draws_for found)
drew_means s pool id None held is = tt
drew_means s pool id (Some o) held is = by (is_offered o) refl
  where
    by : (b : Bool) → is_offered o ≡ b → Means s pool (Taken id) (if b then Drew o else Failed o Unsupported)
    by true offered = let one = held_one s id o held is in (one.0, one.1, offered)
    by false offered = held_one s id o held is

made_means : (s : State) (pool : List Worker) (id : Id) (key : List ℕ) (found : Option OrderRow) → IsHeld s id → IsKeyFor s id key → order_of id s.orders ≡ found → Means s pool (Drawn id key) (makes s key found)
made_means s pool id key None held fits is = tt
made_means s pool id key (Some o) held fits is = by (is_full s o.project) (has_id s)
  where
    by : (full left : Bool) → Means s pool (Drawn id key) (if full then Failed o QuotaReached else if left then Made o key else Failed o IdsSpent)
    by true left = held_one s id o held is
    by false false = held_one s id o held is
    by false true =
        let one = held_one s id o held is in
        (one.0, one.1, fits.size o one.0.there (sym (one_id o.id id one.1)))

pub turn_means : (s : State) (pool : List Worker) (v : Worker) → HoldsWell s v → Means s pool v (turn_with s pool v)
turn_means s pool Free well = took_means s pool (find (is_open pool) s.orders) refl
turn_means s pool (Taken id) well = drew_means s pool id (order_of id s.orders) well refl
turn_means s pool (Drawn id key) well = made_means s pool id key (order_of id s.orders) well.0 well.1 refl

-- ---- the secret of an order that is done

pub with_its_secret : (s : State) (t : ℕ) (o : OrderRow) (key : List ℕ) → length key ≡ o.bit_length / 8
    → MadeFor s (state_turned s t (Made o key)) o (settled_row (Active (next_id s)) t o) (next_id s)
with_its_secret s t o key size = record {
  is_next = refl;
  key = key;
  size = size;
  one_secret = refl;
  one_id = refl;
  one_order = refl;
  others = refl;
}

pub made_same : (s after : State) (o o2 p p2 : OrderRow) (id id2 : Id) → o2 ≡ o → p2 ≡ p → id2 ≡ id → MadeFor s after o p id → MadeFor s after o2 p2 id2
made_same s after o o2 p p2 id id2 a b c made =
    subst (λ (x : OrderRow). MadeFor s after x p2 id2) (sym a) (subst (λ (x : OrderRow). MadeFor s after o x id2) (sym b) (subst (λ (x : Id). MadeFor s after o p x) (sym c) made))

-- ---- what becomes of the orders

pub nothing_new : (s : State) → IsFewer s s
nothing_new s = record { tag = refl; ids = omega arith; from = λ p is. is }

pub failed_names_none : (s : State) (cause : Cause) (id : Id) → Error cause ≡ Active id → (id ≡ next_id s) × (s.ids < s.ids)
failed_names_none s cause id is = absurd cc

pub failed_makes_none : (s after : State) (o p : OrderRow) (cause : Cause) (id : Id) → Error cause ≡ Active id → MadeFor s after o p id
failed_makes_none s after o p cause id is = absurd cc

pub same_name : (a b : Id) → Active a ≡ Active b → b ≡ a
same_name a b is = cc

abbrev pub failed_settles : (s : State) (t : ℕ) (o : OrderRow) (cause : Cause) → IsAtHand s o → IsSettled s (state_turned s t (Failed o cause))
failed_settles s t o cause at_hand = record {
  order = o;
  there = at_hand.there;
  pending = at_hand.pending;
  state = Error cause;
  time = t;
  tag = refl;
  ids = omega arith;
  orders = refl;
  fresh = λ id is. failed_names_none s cause id is;
  made = λ id is. failed_makes_none s (state_turned s t (Failed o cause)) o (settled_row (Error cause) t o) cause id is;
}

abbrev pub made_settles : (s : State) (t : ℕ) (o : OrderRow) (key : List ℕ) → IsAtHand s o → length key ≡ o.bit_length / 8 → IsSettled s (state_turned s t (Made o key))
made_settles s t o key at_hand size = record {
  order = o;
  there = at_hand.there;
  pending = at_hand.pending;
  state = Active (next_id s);
  time = t;
  tag = refl;
  ids = omega arith;
  orders = refl;
  fresh = λ id is. (same_name (next_id s) id is, omega arith);
  made = λ id is.
      let row = settled_row (Active (next_id s)) t o in
      made_same s (state_turned s t (Made o key)) o o row row (next_id s) id refl refl (same_name (next_id s) id is) (with_its_secret s t o key size);
}

pub turn_moved : (s : State) (pool : List Worker) (v : Worker) (t : ℕ) (turn : Turn) → Means s pool v turn → IsFewer s (state_turned s t turn) ⊎ IsSettled s (state_turned s t turn)
turn_moved s pool v t Idle means = inl (nothing_new s)
turn_moved s pool v t (Took o) means = inl (nothing_new s)
turn_moved s pool v t Gone means = inl (nothing_new s)
turn_moved s pool v t (Failed o cause) means = inr (failed_settles s t o cause means.0)
turn_moved s pool v t (Drew o) means = inl (nothing_new s)
turn_moved s pool v t (Made o key) means = inr (made_settles s t o key means.0 means.2)

-- ---- an order that is done

pub none_made_fewer : (s after : State) → IsFewer s after → AreOrdersApart s → NextOrders s after
none_made_fewer s after f apart = record {
  new = λ p is new. absurd (new p (f.from p is) refl);
  made = λ o p id both waits done.
      let same = apart.one o p both.there (f.from p both.still) both.same in
      absurd (pending_is_not p.state id (ap (λ (r : OrderRow). r.state) same ∙ waits) done);
}

pub none_made_more : (s after : State) → IsMore s after → AreOrdersApart s → NextOrders s after
none_made_more s after m apart = record { new = λ p is new. fresh p new (more_from s after m apart p is); made = λ o p id both waits done. absurd (by o p id both waits done (more_from s after m apart p both.still)) }
  where
    fresh : (p : OrderRow) → ((o : OrderRow) → Contains s.orders o → p.id ≡ o.id → ⊥) → Contains s.orders p ⊎ (m.row ≡ p) → p.state ≡ Pending
    fresh p new (inl old) = absurd (new p old refl)
    fresh p new (inr row) = ap (λ (r : OrderRow). r.state) (sym row) ∙ m.pending

    by : (o p : OrderRow) (id : Id) → SameOrder s after o p → o.state ≡ Pending → p.state ≡ Active id → Contains s.orders p ⊎ (m.row ≡ p) → ⊥
    by o p id both waits done (inl old) = pending_is_not p.state id (ap (λ (r : OrderRow). r.state) (apart.one o p both.there old both.same) ∙ waits) done
    by o p id both waits done (inr new) = pending_is_not p.state id (ap (λ (r : OrderRow). r.state) (sym new) ∙ m.pending) done

pub made_settled : (s after : State) → IsSettled s after → AreOrdersApart s → NextOrders s after
made_settled s after x apart = record { new = λ p is new. let w = was_one s after x p is in absurd (new w.was w.there w.same); made = λ o p id both waits done. by o p id both waits done (was_one s after x p both.still) }
  where
    made : (o p w : OrderRow) (id : Id) → Contains s.orders o → w ≡ o → o.state ≡ Pending → p.state ≡ Active id → IsOneOf x.order.id x.state x.time w p → MadeFor s after o p id
    made o p w id there same waits done (inl h) =
        let one : o ≡ x.order = apart.one x.order o x.there there (ap (λ (r : OrderRow). r.id) (sym same) ∙ h.0) in
        let new : p ≡ settled_row x.state x.time x.order = h.1 ∙ ap (settled_row x.state x.time) (same ∙ one) in
        made_same s after x.order o (settled_row x.state x.time x.order) p id id one new refl (x.made id (ap (λ (r : OrderRow). r.state) (sym h.1) ∙ done))
    made o p w id there same waits done (inr h) = absurd (pending_is_not p.state id (ap (λ (r : OrderRow). r.state) (h.1 ∙ same) ∙ waits) done)

    by : (o p : OrderRow) (id : Id) → SameOrder s after o p → o.state ≡ Pending → p.state ≡ Active id → WasOne s after x p → MadeFor s after o p id
    by o p id both waits done w = made o p w.was id both.there (apart.one o w.was both.there w.there (sym w.same ∙ both.same)) waits done w.is

-- ---- no order goes

-- an order of afterwards with the id of this one
abbrev pub IsStillThere : State → OrderRow → Type 0
IsStillThere after o = (p : OrderRow) × Contains after.orders p × (p.id ≡ o.id)

settled_stays : (s : State) (id : Id) (state : OrderState) (t : ℕ) (o : OrderRow) → Contains s.orders o → (p : OrderRow) × Contains (map (with_order id state t) s.orders) p × (p.id ≡ o.id)
settled_stays s id state t o is =
    (with_order id state t o, to_map (with_order id state t) s.orders o is, id_of_one id state t o (with_order id state t o) (one_of id state t o (is_id id o.id) refl))

pub turn_stays : (s : State) (t : ℕ) (turn : Turn) (o : OrderRow) → Contains s.orders o → IsStillThere (state_turned s t turn) o
turn_stays s t Idle o is = (o, is, refl)
turn_stays s t (Took x) o is = (o, is, refl)
turn_stays s t Gone o is = (o, is, refl)
turn_stays s t (Failed x cause) o is = settled_stays s x.id (Error cause) t o is
turn_stays s t (Drew x) o is = (o, is, refl)
turn_stays s t (Made x key) o is = settled_stays s x.id (Active (next_id s)) t o is
