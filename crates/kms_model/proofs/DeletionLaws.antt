-- What a deletion leaves, and what a posted order is.
use Rattle.std.proofs.Common.{◌≡◌, true, not, Bool, List, [], ◌∷◌, Option, Some, None, Ok, refl, sym, ap, subst}
use Rattle.std.specs.Prelude.{filter, find, option_and_then}
use Rattle.std.specs.List.{AllByRecursion, Contains}
use Rattle.std.proofs.lemmas.Bool.{ne_eqb, not_from_false}
use Rattle.std.proofs.lemmas.List.Elements.{All-contains_itself, All-weaker, recursion_from_All}
use Rattle.kms_world.specs.Effect.{after_effects}
use Rattle.kms_world.specs.Id.{is_id}
use Rattle.kms_world.specs.State.{State}
use Rattle.kms_world.specs.declared.action.Action.TheVariants.{SecretDelete, ContainerDelete}
use Rattle.kms_world.specs.declared.caller.Caller.{Caller}
use Rattle.kms_world.specs.declared.container.ContainerRow.{ContainerRow}
use Rattle.kms_world.specs.declared.id.Id.{Id}
use Rattle.kms_world.specs.declared.order.OrderRow.{OrderRow}
use Rattle.kms_world.specs.declared.secret.SecretRow.{SecretRow}
use Rattle.kms_model.specs.Containers.{any_container, container_deleted, container_for, container_target}
use Rattle.kms_model.specs.Done.{Done}
use Rattle.kms_model.specs.Permission.{granted}
use Rattle.kms_model.specs.Secrets.{any_secret, deleted, secret_for, secret_target}
use Rattle.kms_model.proofs.OrderMoves.{same_number}
use Rattle.kms_model.proofs.OrderRequests.{found_one}
use Rattle.kms_model.proofs.OrderStaying.{found_there}
use Rattle.kms_model.proofs.SecretLaws.{done_same, gave}

all_kept : {X : Type 0} (keep : X → Bool) (xs : List X) → AllByRecursion (λ x. keep x ≡ true) xs → filter keep xs ≡ xs
all_kept keep [] each = refl
all_kept keep (x ∷ xs) each = rw (each.0) (ap (λ rest. x ∷ rest) (all_kept keep xs each.1))

-- what is deleted under an id that no order has leaves the orders
none_goes : (s : State) (id : Id) → ((o : OrderRow) → Contains s.orders o → id ≡ o.id → ⊥) → filter (λ (r : OrderRow). not (is_id id r.id)) s.orders ≡ s.orders
none_goes s id other =
    let keep = λ (r : OrderRow). not (is_id id r.id) in
    all_kept keep s.orders (recursion_from_All (λ r. keep r ≡ true) s.orders
    (All-weaker (Contains s.orders) (λ r. keep r ≡ true) (λ r is. not_from_false (is_id id r.id) (ne_eqb r.id.0 id.0 (λ e. other r is (sym (same_number r.id id e))))) s.orders (All-contains_itself s.orders)))

among : {X : Type 0} (id_of : X → Id) (rows : List X) (id : Option Id) (row : X) → option_and_then (λ (i : Id). find (λ r. is_id i (id_of r)) rows) id ≡ Some row → Contains rows row
among id_of rows None row is = absurd cc
among id_of rows (Some i) row is = found_there (λ r. is_id i (id_of r)) rows row is

pub secret_leaves : (s : State) (caller : Caller) (id : Option Id) (done : Done) → ((row : SecretRow) (o : OrderRow) → Contains s.secrets row → Contains s.orders o → row.id ≡ o.id → ⊥)
    → deleted s caller id ≡ Ok done → (after_effects done.effects s).orders ≡ s.orders
secret_leaves s caller id done apart is =
    let one = gave (secret_for s caller SecretDelete (any_secret s id)) _ done is in
    let there = among (λ (r : SecretRow). r.id) s.secrets id one.0 (found_one (any_secret s id) (λ row. granted caller SecretDelete (Some (secret_target s row))) one.0 one.1) in
    subst (λ (d : Done). (after_effects d.effects s).orders ≡ s.orders) (done_same _ done one.2) (none_goes s one.0.id (λ o among_orders. apart one.0 o there among_orders))

pub container_leaves : (s : State) (caller : Caller) (id : Option Id) (done : Done) → ((row : ContainerRow) (o : OrderRow) → Contains s.containers row → Contains s.orders o → row.id ≡ o.id → ⊥)
    → container_deleted s caller id ≡ Ok done → (after_effects done.effects s).orders ≡ s.orders
container_leaves s caller id done apart is =
    let one = gave (container_for s caller ContainerDelete (any_container s id)) _ done is in
    let there = among (λ (r : ContainerRow). r.id) s.containers id one.0 (found_one (any_container s id) (λ row. granted caller ContainerDelete (Some (container_target s row))) one.0 one.1) in
    subst (λ (d : Done). (after_effects d.effects s).orders ≡ s.orders) (done_same _ done one.2) (none_goes s one.0.id (λ o among_orders. apart one.0 o there among_orders))
