-- What follows for an order that is posted, and what the law of orders refuses.
use Rattle.std.proofs.Common.{◌≡◌, ℕ, ◌+◌, ◌<◌, ◌^◌, false, List, [], ◌∷◌, ◌++◌, length, None, Ok, refl, sym, ap, subst, ◌∙◌, arith}
use Rattle.std.specs.List.{AllByRecursion}
use Rattle.std.proofs.lemmas.Bool.{ltb-true}
use Rattle.std.proofs.lemmas.List.{length-append}
use Rattle.kms_secret.specs.Order.{checked_order}
use Rattle.kms_secret.specs.declared.order.NewOrder.{NewOrder}
use Rattle.kms_world.specs.Effect.{after_effects}
use Rattle.kms_world.specs.Id.{is_id}
use Rattle.kms_world.specs.State.{State}
use Rattle.kms_world.specs.declared.action.Action.TheVariants.{OrderCreate}
use Rattle.kms_world.specs.declared.body.OrderBody.{OrderBody}
use Rattle.kms_world.specs.declared.caller.Caller.{Caller}
use Rattle.kms_world.specs.declared.id.Id.{Id}
use Rattle.kms_world.specs.declared.order.OrderRow.{OrderRow}
use Rattle.kms_world.specs.declared.order.OrderState.{OrderState}
use Rattle.kms_world.specs.declared.order.OrderState.TheVariants.{Pending, Active}
use Rattle.kms_world.specs.declared.quota.QuotaKind.TheVariants.{Orders}
use Rattle.kms_world.specs.declared.secret.SecretRow.{SecretRow}
use Rattle.kms_model.specs.Done.{Done, only_if}
use Rattle.kms_model.specs.OrderLaw.{LaterOrders, NextOrders, SameOrder}
use Rattle.kms_model.specs.Orders.{new_order, order_posted, order_wanted}
use Rattle.kms_model.specs.Permission.{granted}
use Rattle.kms_model.specs.Quotas.{within_quota}
use Rattle.kms_model.specs.Secrets.{has_id, next_id}
use Rattle.kms_model.specs.Worker.{is_pending, secret_for}
use Rattle.kms_model.proofs.OrderMoves.{pending_is_not}
use Rattle.kms_model.proofs.OrderStaying.{put_last}
use Rattle.kms_model.proofs.SecretLaws.{done_same, gave, held, next_given}

-- ---- an order that is posted

-- the state with one order more, which is given the next id
abbrev pub with_order_posted : State → OrderRow → State
with_order_posted s row = record s { ids = s.ids + 1; orders = s.orders ++ row ∷ [] }

pub record IsPosted (s : State) (caller : Caller) (body : OrderBody) (t : ℕ) (done : Done) : Type 0 where
  pub new : NewOrder
  pub checked : checked_order body t ≡ Ok new
  pub left : s.ids < 2 ^ 62
  pub state : AllByRecursion (λ (other : OrderRow). is_id (next_id s) other.id ≡ false) s.orders → after_effects done.effects s ≡ with_order_posted s (new_order s caller new t)

posted_state : (s : State) (row : OrderRow) (ids : ℕ) (orders : List OrderRow) → ids ≡ s.ids + 1 → orders ≡ s.orders ++ row ∷ []
    → (let after : State = record s { ids = ids; orders = orders } in after) ≡ with_order_posted s row
posted_state s row ids orders given last = rw (given, last) refl

pub is_posted_order : (s : State) (caller : Caller) (body : OrderBody) (t : ℕ) (done : Done) → order_posted s caller (Ok body) t ≡ Ok done → IsPosted s caller body t done
is_posted_order s caller body t done is =
    let w = gave (order_wanted caller (Ok body) t) _ done is in
    let a = gave (granted caller OrderCreate None) _ w.0 w.1 in
    let r = gave (within_quota s caller.project Orders) _ done w.2 in
    let d = gave (only_if (has_id s) _) _ done r.2 in
    let row = new_order s caller w.0 t in
    record {
      new = w.0;
      checked = a.2;
      left = ltb-true s.ids (2 ^ 62) (held (has_id s) _ d.0 d.1);
      state = λ apart.
          subst (λ (x : Done). after_effects x.effects s ≡ with_order_posted s row) (done_same _ done d.2)
          (posted_state s row _ _ (next_given s) (put_last (λ (r : OrderRow). is_id (next_id s) r.id) row s.orders apart));
    }

-- ---- what the law refuses

settled_done : (state : OrderState) (id : Id) → state ≡ Active id → is_pending state ≡ false
settled_done state id is = ap is_pending is

pub other_secret : (s later : State) (o p : OrderRow) (id other : Id) → SameOrder s later o p → o.state ≡ Active id → p.state ≡ Active other → (other ≡ id → ⊥) → LaterOrders s later → ⊥
other_secret s later o p id other both first second differ law = differ (one (sym second ∙ law.settled o p both (settled_done o.state id first) ∙ first))
  where
    one : Active other ≡ Active id → other ≡ id
    one e = cc

pub pending_again : (s later : State) (o p : OrderRow) (id : Id) → SameOrder s later o p → o.state ≡ Active id → p.state ≡ Pending → LaterOrders s later → ⊥
pending_again s later o p id both first second law = pending_is_not o.state id (sym (law.settled o p both (settled_done o.state id first)) ∙ second) first

-- as many secrets more as were made
one_secret_more : (s next : State) (o p : OrderRow) (id : Id) → SameOrder s next o p → o.state ≡ Pending → p.state ≡ Active id → NextOrders s next → length next.secrets ≡ length s.secrets + 1
one_secret_more s next o p id both waits done law =
    let made = law.made o p id both waits done in
    ap length made.one_secret ∙ length-append s.secrets (secret_for s o made.key p.updated ∷ [])

pub no_secret : (s next : State) (o p : OrderRow) (id : Id) → SameOrder s next o p → o.state ≡ Pending → p.state ≡ Active id → next.secrets ≡ s.secrets → NextOrders s next → ⊥
no_secret s next o p id both waits done same law =
    let more = one_secret_more s next o p id both waits done law in
    let none = ap length same in
    omega (arith, more, none)

pub two_secrets : (s next : State) (o p : OrderRow) (id : Id) (a b : SecretRow) → SameOrder s next o p → o.state ≡ Pending → p.state ≡ Active id → next.secrets ≡ s.secrets ++ a ∷ b ∷ [] → NextOrders s next → ⊥
two_secrets s next o p id a b both waits done same law =
    let more = one_secret_more s next o p id both waits done law in
    let two = ap length same ∙ length-append s.secrets (a ∷ b ∷ []) in
    omega (arith, more, two)
