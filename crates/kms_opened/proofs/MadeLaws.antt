-- What an order leaves whose secret is made.
use Rattle.std.proofs.Common.{◌≡◌, ℕ, ◌+◌, ◌<◌, true, false, eqb, List, [], ◌∷◌, ◌++◌, map, refl, sym, ap, subst, arith}
use Rattle.std.specs.List.{AllByRecursion}
use Rattle.std.proofs.lemmas.Bool.{eq-eqb, ne_eqb}
use Rattle.kms_world.specs.Effect.{change_rows, with_payload, after_effects, SecretPut, PayloadPut, OrderPut}
use Rattle.kms_world.specs.Id.{id_number, id_at, is_id}
use Rattle.kms_world.specs.State.{State}
use Rattle.kms_world.specs.declared.id.Id.{Id}
use Rattle.kms_world.specs.declared.order.OrderRow.{OrderRow}
use Rattle.kms_world.specs.declared.payload.Payload.{Payload}
use Rattle.kms_world.specs.declared.secret.SecretRow.{SecretRow}
use Rattle.kms_kept.specs.Kept.{secret_ids}
use Rattle.kms_kept.specs.Rising.{IsGiven, IsRising}
use Rattle.kms_kept.proofs.RisingLaws.{below_all, given_below}
use Rattle.kms_opened.specs.Made.{made}

same_rows : (id : Id) (f : SecretRow → SecretRow) (row : SecretRow) (rows : List SecretRow) → is_id id row.id ≡ true → AllByRecursion (λ (other : Id). other.0 < id.0) (map (λ (r : SecretRow). r.id) rows)
    → change_rows (λ r. is_id id r.id) f (rows ++ row ∷ []) ≡ rows ++ f row ∷ []
same_rows id f row [] at below = rw at refl
same_rows id f row (x ∷ xs) at below =
    let past : is_id id x.id ≡ false = ne_eqb x.id.0 id.0 (λ e. absurd (omega (arith, e, below.0))) in
    rw past (ap (λ (rs : List SecretRow). x ∷ rs) (same_rows id f row xs at below.1))

not_next : (s : State) (id : Id) → IsGiven s.tag s.ids id → eqb id.0 (id_number s.tag (s.ids + 1)) ≡ false
not_next s id given = ne_eqb id.0 (id_number s.tag (s.ids + 1)) (λ e. absurd (omega (arith, e, given_below s.tag s.ids id given)))

-- An order's secret is made: one secret more, with its payload and the next id, and the order in its place. All else is as before.
pub made_is : (s : State) (row : SecretRow) (t : ℕ) (payload : Payload) (order : OrderRow) → IsRising s → row.id ≡ id_at s.tag s.ids → IsGiven s.tag s.ids order.id
    → after_effects (SecretPut row ∷ PayloadPut row.id t payload ∷ OrderPut order ∷ []) s ≡ made s row t payload order
made_is s row t payload order r next given =
    let below : AllByRecursion (λ (other : Id). other.0 < row.id.0) (secret_ids s) = subst (λ (i : Id). AllByRecursion (λ (other : Id). other.0 < i.0) (secret_ids s)) (sym next) (below_all s.tag s.ids (secret_ids s) r.secrets) in
    rw (same_rows row.id (with_payload t payload) row s.secrets (eq-eqb row.id.0 row.id.0 refl) below, next, eq-eqb (id_number s.tag s.ids) (id_number s.tag s.ids) refl, not_next s order.id given) refl
