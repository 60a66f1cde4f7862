-- What holds between a state and one that follows, however many events are between them.
use Rattle.std.proofs.Common.{◌≡◌, ◌⊎◌, inl, inr, ◌≤◌, true, false, refl, sym, ap, subst, ◌∙◌, arith}
use Rattle.std.specs.List.{Contains}
use Rattle.kms_world.specs.State.{State}
use Rattle.kms_world.specs.declared.id.Id.{Id}
use Rattle.kms_world.specs.declared.order.OrderRow.{OrderRow}
use Rattle.kms_world.specs.declared.order.OrderState.TheVariants.{Active}
use Rattle.kms_model.specs.OrderLaw.{AreOrdersApart, LaterOrders, SameOrder, WasGiven}
use Rattle.kms_model.specs.Worker.{is_pending}
use Rattle.kms_model.proofs.OrderMoves.{IsFewer, IsMore, IsOneOf, IsSettled, WasOne, later_given, more_from, not_next, pending_is_not, was_one}

-- An order whose id was given earlier was there earlier; one that was settled is as it was; and one that names an id that was given
-- earlier did so.
pub record Follows (s later : State) : Type 0 where
  pub tag : later.tag ≡ s.tag
  pub ids : s.ids ≤ later.ids
  pub back : (p : OrderRow) → Contains later.orders p → WasGiven s p.id → (o : OrderRow) × Contains s.orders o × (p.id ≡ o.id)
  pub settled : (o p : OrderRow) → SameOrder s later o p → is_pending o.state ≡ false → p.state ≡ o.state
  pub named : (p : OrderRow) (id : Id) → Contains later.orders p → p.state ≡ Active id → WasGiven s id → (o : OrderRow) × Contains s.orders o × (p.id ≡ o.id) × (o.state ≡ Active id)

pub later_orders : (s later : State) → AreOrdersApart s → Follows s later → LaterOrders s later
later_orders s later apart f = record {
  settled = f.settled;
  own = λ o p id is also first second.
      let from = f.named p id also second (apart.named o id is first) in
      from.2 ∙ apart.own o from.0 id is from.1 first from.3;
}

pub follows_itself : (s : State) → AreOrdersApart s → Follows s s
follows_itself s apart = record {
  tag = refl;
  ids = omega arith;
  back = λ p is given. (p, is, refl);
  settled = λ o p both settled. ap (λ (r : OrderRow). r.state) (apart.one o p both.there both.still both.same);
  named = λ p id is names given. (p, is, refl, names);
}

pub follows_on : (s mid later : State) → AreOrdersApart s → Follows s mid → Follows mid later → Follows s later
follows_on s mid later apart a b = record {
  tag = b.tag ∙ a.tag;
  ids = let x = a.ids in let y = b.ids in omega (arith, x, y);
  back = λ p is given.
      let m = b.back p is (later_given s mid p.id a.tag a.ids given) in
      let o = a.back m.0 m.1 (subst (WasGiven s) m.2 given) in
      (o.0, o.1, m.2 ∙ o.2);
  settled = settled;
  named = λ p id is names given.
      let m = b.named p id is names (later_given s mid id a.tag a.ids given) in
      let o = a.named m.0 id m.1 m.3 given in
      (o.0, o.1, m.2 ∙ o.2, o.3);
}
  where
    settled : (o p : OrderRow) → SameOrder s later o p → is_pending o.state ≡ false → p.state ≡ o.state
    settled o p both has =
        let m = b.back p both.still (later_given s mid p.id a.tag a.ids (subst (WasGiven s) (sym both.same) (apart.given o both.there))) in
        let first = a.settled o m.0 (record { there = both.there; still = m.1; same = sym m.2 ∙ both.same }) has in
        b.settled m.0 p (record { there = m.1; still = both.still; same = m.2 }) (ap is_pending first ∙ has) ∙ first

-- ---- one event

pub follows_fewer : (s after : State) → IsFewer s after → AreOrdersApart s → Follows s after
follows_fewer s after f apart = record {
  tag = f.tag;
  ids = f.ids;
  back = λ p is given. (p, f.from p is, refl);
  settled = λ o p both settled. ap (λ (r : OrderRow). r.state) (apart.one o p both.there (f.from p both.still) both.same);
  named = λ p id is names given. (p, f.from p is, refl, names);
}

pub follows_more : (s after : State) → IsMore s after → AreOrdersApart s → Follows s after
follows_more s after m apart = record {
  tag = m.tag;
  ids = let e = m.ids in omega (arith, e);
  back = λ p is given. back p given (from p is);
  settled = λ o p both settled. ap (λ (r : OrderRow). r.state) (settles o p both (from p both.still));
  named = λ p id is names given. named p id names (from p is);
}
  where
    from : (p : OrderRow) → Contains after.orders p → Contains s.orders p ⊎ (m.row ≡ p)
    from = more_from s after m apart

    back : (p : OrderRow) → WasGiven s p.id → Contains s.orders p ⊎ (m.row ≡ p) → (o : OrderRow) × Contains s.orders o × (p.id ≡ o.id)
    back p given (inl old) = (p, old, refl)
    back p given (inr new) = absurd (not_next s p.id given (ap (λ (r : OrderRow). r.id) (sym new) ∙ m.is_next))

    settles : (o p : OrderRow) → SameOrder s after o p → Contains s.orders p ⊎ (m.row ≡ p) → p ≡ o
    settles o p both (inl old) = apart.one o p both.there old both.same
    settles o p both (inr new) = absurd (not_next s o.id (apart.given o both.there) (sym both.same ∙ ap (λ (r : OrderRow). r.id) (sym new) ∙ m.is_next))

    named : (p : OrderRow) (id : Id) → p.state ≡ Active id → Contains s.orders p ⊎ (m.row ≡ p) → (o : OrderRow) × Contains s.orders o × (p.id ≡ o.id) × (o.state ≡ Active id)
    named p id names (inl old) = (p, old, refl, names)
    named p id names (inr new) = absurd (pending_is_not p.state id (ap (λ (r : OrderRow). r.state) (sym new) ∙ m.pending) names)

pub follows_settled : (s after : State) → IsSettled s after → AreOrdersApart s → Follows s after
follows_settled s after x apart = record {
  tag = x.tag;
  ids = x.ids;
  back = λ p is given. let w = was_one s after x p is in (w.was, w.there, w.same);
  settled = λ o p both settled. settles o p both settled (was_one s after x p both.still);
  named = λ p id is names given. named p id names given (was_one s after x p is);
}
  where
    -- the settled order was pending
    no_pending : (o : OrderRow) → Contains s.orders o → o.id ≡ x.order.id → is_pending o.state ≡ false → ⊥
    no_pending o there same has = no (sym (ap is_pending (ap (λ (r : OrderRow). r.state) (apart.one x.order o x.there there same) ∙ x.pending)) ∙ has)
      where
        no : true ≡ false → ⊥
        no e = cc

    state_of : (o p w : OrderRow) → Contains s.orders o → w ≡ o → is_pending o.state ≡ false → IsOneOf x.order.id x.state x.time w p → p.state ≡ o.state
    state_of o p w there e has (inl h) = absurd (no_pending o there (ap (λ (r : OrderRow). r.id) (sym e) ∙ h.0) has)
    state_of o p w there e has (inr h) = ap (λ (r : OrderRow). r.state) (h.1 ∙ e)

    settles : (o p : OrderRow) → SameOrder s after o p → is_pending o.state ≡ false → WasOne s after x p → p.state ≡ o.state
    settles o p both has w = state_of o p w.was both.there (apart.one o w.was both.there w.there (sym w.same ∙ both.same)) has w.is

    named_by : (p w : OrderRow) (id : Id) → p.state ≡ Active id → WasGiven s id → IsOneOf x.order.id x.state x.time w p → w.state ≡ Active id
    named_by p w id names given (inl h) = absurd (not_next s id given (x.fresh id (ap (λ (r : OrderRow). r.state) (sym h.1) ∙ names)).0)
    named_by p w id names given (inr h) = ap (λ (r : OrderRow). r.state) (sym h.1) ∙ names

    named : (p : OrderRow) (id : Id) → p.state ≡ Active id → WasGiven s id → WasOne s after x p → (o : OrderRow) × Contains s.orders o × (p.id ≡ o.id) × (o.state ≡ Active id)
    named p id names given w = (w.was, w.there, w.same, named_by p w.was id names given w.is)
