-- What the order law needs of changes and effects.
use Rattle.std.proofs.Common.{◌≡◌, Option, ℕ, ◌<◌, Bool, true, false, not, List, [], ◌∷◌, map, Some, None, refl, sym, ap, subst, ◌∙◌, arith, inl, inr}
use Rattle.std.specs.Prelude.{◌||◌, filter}
use Rattle.std.specs.List.{AllByRecursion}
use Rattle.std.proofs.lemmas.Bool.{cases_Bool, and_parts, or_cases, eqb-true, ne_eqb, not-true, false_from_ne_true, both_ways}
use Rattle.kms_world.specs.State.{State}
use Rattle.kms_world.specs.declared.id.Id.{Id}
use Rattle.kms_world.specs.declared.order.OrderRow.{OrderRow}
use Rattle.kms_world.specs.Id.{is_id}
use Rattle.kms_world.specs.Effect.{put_row, after_effect}
use Rattle.kms_record.specs.declared.change.Change.TheVariants as changes
use Rattle.kms_record.specs.declared.change.Change.{Change}
use Rattle.kms_world.specs.Id.{id_at}
use Rattle.kms_record.specs.ChangeEffect.{order_state_at, order_at}
use Rattle.kms_record.specs.declared.order.OrderPut.{OrderPut as Order}
use Rattle.kms_record.specs.declared.order.OrderPutState.{OrderPutState}
use Rattle.kms_record.specs.declared.order.OrderPutState.TheVariants as put_states
use Rattle.kms_kept.specs.Kept.{Kept, Part, applies, changed, names_id, is_named_once}
use Rattle.kms_kept.specs.Orders.{NameApart, AllNameApart}
use Rattle.kms_record.specs.ChangeEffect.{quota_effect}
use Rattle.kms_record.specs.declared.quota.QuotaLimits.{QuotaLimits}
use Rattle.kms_kept.specs.Rising.{Rises, IsRising}
use Rattle.kms_kept.proofs.JoinedLaws.{all_put}
use Rattle.kms_kept.proofs.KeptLists.{all_filter, all_passed}

-- ---- no two orders name the same id

other_way : (a b : OrderRow) → NameApart a b → NameApart b a
other_way a b apart id named = false_from_ne_true (names_id id a.state) (λ both. let clash : false ≡ true = sym (apart id both) ∙ named in absurd cc)

-- the row is apart from each that isn't the one it replaces
abbrev pub ApartBut : OrderRow → OrderRow → Type 0
ApartBut row other = is_id row.id other.id ≡ false → NameApart row other

others_apart : (row x : OrderRow) (xs : List OrderRow) → is_id row.id x.id ≡ true → AllByRecursion (λ (other : Id). x.id.0 < other.0) (map (λ (r : OrderRow). r.id) xs) → AllByRecursion (ApartBut row) xs → AllByRecursion (NameApart row) xs
others_apart row x [] at above each = tt
others_apart row x (y ∷ ys) at above each =
    (each.0 (ne_eqb y.id.0 row.id.0 (λ e. absurd (omega (arith, e, above.0, eqb-true x.id.0 row.id.0 at)))), others_apart row x ys at above.1 each.1)

put_apart : (tag n : ℕ) (row : OrderRow) (rows : List OrderRow) → Rises tag n (map (λ (r : OrderRow). r.id) rows) → AllByRecursion (ApartBut row) rows → AllNameApart rows → AllNameApart (put_row (λ r. is_id row.id r.id) row rows)
put_apart tag n row [] r but apart = (tt, tt)
put_apart tag n row (x ∷ xs) r but apart = elim (cases_Bool (is_id row.id x.id)) [
  | inl t ↦ rw t (others_apart row x xs t r.1 but.1, apart.1)
  | inr f ↦ rw f (all_put (NameApart x) (λ r. is_id row.id r.id) row xs (other_way row x (but.0 f)) apart.0, put_apart tag n row xs r.2 but.1 apart.1)
]

filter_apart : (keep : OrderRow → Bool) (rows : List OrderRow) → AllNameApart rows → AllNameApart (filter keep rows)
filter_apart keep [] apart = tt
filter_apart keep (x ∷ xs) apart = elim (cases_Bool (keep x)) [
  | inl t ↦ rw t (all_filter (NameApart x) keep xs apart.0, filter_apart keep xs apart.1)
  | inr f ↦ rw f (filter_apart keep xs apart.1)
]

-- the row that a change puts is apart from the others
one_apart : (tag : ℕ) (id : ℕ) (mark : OrderPutState) (row other : OrderRow) → row.state ≡ order_state_at tag mark
    → ((secret : ℕ) → mark ≡ put_states.Active secret → (not (names_id (id_at tag secret) other.state) || is_id row.id other.id) ≡ true) → ApartBut row other
one_apart tag id put_states.Pending row other is free past i named = absurd (both_ways (names_id i row.state) (ap (names_id i) is) named)
one_apart tag id (put_states.Error cause) row other is free past i named = absurd (both_ways (names_id i row.state) (ap (names_id i) is) named)
one_apart tag id (put_states.Active secret) row other is free past i named =
    elim (or_cases _ _ (free secret refl)) [
      | inl here ↦
          let same : (id_at tag secret).0 ≡ i.0 = eqb-true _ _ (sym (ap (names_id i) is) ∙ named) in
          ap (λ (n : ℕ). let j : Id = record { 0 = n } in names_id j other.state) (sym same) ∙ not-true (names_id (id_at tag secret) other.state) here
      | inr it ↦ absurd (both_ways (is_id row.id other.id) past it)
    ]

named_free : (s : State) (order : ℕ) (mark : OrderPutState) → is_named_once s order mark ≡ true → (secret : ℕ) → mark ≡ put_states.Active secret
    → AllByRecursion (λ (r : OrderRow). (not (names_id (id_at s.tag secret) r.state) || is_id (id_at s.tag order) r.id) ≡ true) s.orders
named_free s order mark h secret is =
    let g : is_named_once s order (put_states.Active secret) ≡ true = subst (λ (m : OrderPutState). is_named_once s order m ≡ true) is h in
    all_passed (λ (r : OrderRow). not (names_id (id_at s.tag secret) r.state) || is_id (id_at s.tag order) r.id) s.orders (and_parts _ _ g).1

but_all : (s : State) (put : Order) (rows : List OrderRow)
    → ((secret : ℕ) → put.state ≡ put_states.Active secret → AllByRecursion (λ (r : OrderRow). (not (names_id (id_at s.tag secret) r.state) || is_id (id_at s.tag put.id) r.id) ≡ true) rows)
    → AllByRecursion (ApartBut (order_at s.tag put)) rows
but_all s put [] free = tt
but_all s put (x ∷ xs) free =
    (one_apart s.tag put.id put.state (order_at s.tag put) x refl (λ secret is. (free secret is).0), but_all s put xs (λ secret is. (free secret is).1))

pub quota_orders : (project : List ℕ) (limits : Option QuotaLimits) (s : State) → (after_effect (quota_effect project limits) s).orders ≡ s.orders
quota_orders project None s = refl
quota_orders project (Some limits) s = refl

pub orders_apart : (part : Part) (change : Change) (kept : Kept) → IsRising kept.state → AllNameApart kept.state.orders → applies part change kept ≡ true → AllNameApart (changed change kept).state.orders
orders_apart part (changes.KeyAdded key) kept r apart fits = apart
orders_apart part (changes.KeyRewrapped key) kept r apart fits = apart
orders_apart part (changes.TokenReplaced put) kept r apart fits = apart
orders_apart part (changes.KeyDropped put) kept r apart fits = apart
orders_apart part (changes.SecretPut put) kept r apart fits = apart
orders_apart part (changes.PayloadPut put) kept r apart fits = apart
orders_apart part (changes.MetadataPut put) kept r apart fits = apart
orders_apart part (changes.ContainerPut put) kept r apart fits = apart
orders_apart part (changes.ConsumerAdded put) kept r apart fits = apart
orders_apart part (changes.ConsumerDropped put) kept r apart fits = apart
orders_apart part (changes.AclPut put) kept r apart fits = apart
orders_apart part (changes.AclDropped id) kept r apart fits = apart
orders_apart part (changes.OrderPut put) kept r apart fits =
    let s = kept.state in
    put_apart s.tag s.ids (order_at s.tag put) s.orders r.orders (but_all s put s.orders (named_free s put.id put.state (and_parts _ _ fits).1)) apart
orders_apart part (changes.QuotaPut put) kept r apart fits = subst AllNameApart (sym (quota_orders put.project put.limits kept.state)) apart
orders_apart part (changes.Deleted id) kept r apart fits = filter_apart (λ x. not (is_id (id_at kept.state.tag id) x.id)) kept.state.orders apart
