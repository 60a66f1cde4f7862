-- Orders that are kept stand apart.
use Rattle.std.proofs.Common.{◌≡◌, ◌⊎◌, inl, inr, ℕ, ◌<◌, true, false, true≢false, List, [], ◌∷◌, map, refl, sym, ap, subst, ◌∙◌, arith}
use Rattle.std.specs.List.{AllByRecursion, Contains}
use Rattle.std.proofs.lemmas.Bool.{eq-eqb}
use Rattle.std.proofs.lemmas.List.Elements.{All-contains, All-from_recursion}
use Rattle.kms_kept.specs.Apart.{AreApart, IsOther}
use Rattle.kms_kept.specs.Kept.{Kept, container_ids, names_id, secret_ids}
use Rattle.kms_kept.specs.Named.{NamesGiven}
use Rattle.kms_kept.specs.Orders.{AllNameApart, NameApart}
use Rattle.kms_kept.specs.Rising.{IsGiven, Rises}
use Rattle.kms_kept.specs.Sound.{IsSound}
use Rattle.kms_model.specs.OrderLaw.{AreOrdersApart, WasGiven}
use Rattle.kms_model.proofs.OrderStaying.{split, to_map}
use Rattle.kms_model.proofs.PayloadReading.{same_id}
use Rattle.kms_world.specs.Id.{is_id}
use Rattle.kms_world.specs.State.{State}
use Rattle.kms_world.specs.declared.container.ContainerRow.{ContainerRow}
use Rattle.kms_world.specs.declared.id.Id.{Id}
use Rattle.kms_world.specs.declared.order.OrderRow.{OrderRow}
use Rattle.kms_world.specs.declared.order.OrderState.{OrderState}
use Rattle.kms_world.specs.declared.order.OrderState.TheVariants.{Active}
use Rattle.kms_world.specs.declared.secret.SecretRow.{SecretRow}

-- what holds of each row holds of one that is among them
of_one : {X : Type 0} (P : X → Type 0) (xs : List X) (x : X) → AllByRecursion P xs → Contains xs x → P x
of_one P xs x each is = All-contains P xs x (All-from_recursion P xs each) is

given_each : (tag ids : ℕ) (rows : List OrderRow) → Rises tag ids (map (λ r. r.id) rows) → AllByRecursion (λ (r : OrderRow). IsGiven tag ids r.id) rows
given_each tag ids [] rises = tt
given_each tag ids (row ∷ rows) rises = (rises.0, given_each tag ids rows rises.2)

above_each : (first : Id) (rows : List OrderRow) → AllByRecursion (λ (other : Id). first.0 < other.0) (map (λ r. r.id) rows) → AllByRecursion (λ (r : OrderRow). first.0 < r.id.0) rows
above_each first [] above = tt
above_each first (row ∷ rows) above = (above.0, above_each first rows above.1)

apart_ids : (first : Id) (other : Id) → first.0 < other.0 → first ≡ other → ⊥
apart_ids first other less same = let e = ap (λ (i : Id). i.0) same in absurd (omega (arith, less, e))

less_than : (first : Id) (rows : List OrderRow) (r : OrderRow) → AllByRecursion (λ (other : Id). first.0 < other.0) (map (λ x. x.id) rows) → Contains rows r → first.0 < r.id.0
less_than first rows r above is = of_one (λ (x : OrderRow). first.0 < x.id.0) rows r (above_each first rows above) is

one_here : (row : OrderRow) (rows : List OrderRow) (o p : OrderRow) → AllByRecursion (λ (other : Id). row.id.0 < other.0) (map (λ r. r.id) rows) → (Contains rows o → Contains rows p → p ≡ o)
    → (row ≡ o) ⊎ Contains rows o → (row ≡ p) ⊎ Contains rows p → p.id ≡ o.id → p ≡ o
one_here row rows o p above rest (inl a) (inl b) same = sym b ∙ a
one_here row rows o p above rest (inl a) (inr b) same = absurd (apart_ids row.id p.id (less_than row.id rows p above b) (ap (λ (r : OrderRow). r.id) a ∙ sym same))
one_here row rows o p above rest (inr a) (inl b) same = absurd (apart_ids row.id o.id (less_than row.id rows o above a) (ap (λ (r : OrderRow). r.id) b ∙ same))
one_here row rows o p above rest (inr a) (inr b) same = rest a b

-- ids rise, so no two orders have the same
one_row : (tag ids : ℕ) (rows : List OrderRow) → Rises tag ids (map (λ r. r.id) rows) → (o p : OrderRow) → Contains rows o → Contains rows p → p.id ≡ o.id → p ≡ o
one_row tag ids [] rises o p there also same = let lt = there.1 in absurd (omega (arith, lt))
one_row tag ids (row ∷ rows) rises o p there also same =
    one_here row rows o p rises.1 (λ a b. one_row tag ids rows rises.2 o p a b same) (split row o rows there) (split row p rows also) same

names_it : (id : Id) (state : OrderState) → state ≡ Active id → names_id id state ≡ true
names_it id state is = ap (names_id id) is ∙ eq-eqb id.0 id.0 refl

not_both : (a b : OrderRow) (id : Id) → NameApart a b → a.state ≡ Active id → b.state ≡ Active id → ⊥
not_both a b id apart first then = absurd (true≢false (sym (names_it id b.state then) ∙ apart id (names_it id a.state first)))

own_here : (row : OrderRow) (rows : List OrderRow) (o p : OrderRow) (id : Id) → AllByRecursion (NameApart row) rows → (Contains rows o → Contains rows p → p.id ≡ o.id)
    → (row ≡ o) ⊎ Contains rows o → (row ≡ p) ⊎ Contains rows p → o.state ≡ Active id → p.state ≡ Active id → p.id ≡ o.id
own_here row rows o p id apart rest (inl a) (inl b) first then = ap (λ (r : OrderRow). r.id) (sym b ∙ a)
own_here row rows o p id apart rest (inl a) (inr b) first then = absurd (not_both row p id (of_one (NameApart row) rows p apart b) (ap (λ (r : OrderRow). r.state) a ∙ first) then)
own_here row rows o p id apart rest (inr a) (inl b) first then = absurd (not_both row o id (of_one (NameApart row) rows o apart a) (ap (λ (r : OrderRow). r.state) b ∙ then) first)
own_here row rows o p id apart rest (inr a) (inr b) first then = rest a b

own_row : (rows : List OrderRow) → AllNameApart rows → (o p : OrderRow) (id : Id) → Contains rows o → Contains rows p → o.state ≡ Active id → p.state ≡ Active id → p.id ≡ o.id
own_row [] apart o p id there also first then = let lt = there.1 in absurd (omega (arith, lt))
own_row (row ∷ rows) apart o p id there also first then =
    own_here row rows o p id apart.0 (λ a b. own_row rows apart.1 o p id a b first then) (split row o rows there) (split row p rows also) first then

was_given : (s : State) (id : Id) → IsGiven s.tag s.ids id → WasGiven s id
was_given s id given = (given.count, given.below, given.is)

pub kept_apart : (kept : Kept) → IsSound kept → AreOrdersApart kept.state
kept_apart kept sound =
    let s = kept.state in
    record {
      given = λ o is. was_given s o.id (of_one (λ (r : OrderRow). IsGiven s.tag s.ids r.id) s.orders o (given_each s.tag s.ids s.orders sound.rising.orders) is);
      one = one_row s.tag s.ids s.orders sound.rising.orders;
      named = λ o id is names. was_given s id
          (subst (NamesGiven s.tag s.ids) names (of_one (λ (r : OrderRow). NamesGiven s.tag s.ids r.state) s.orders o sound.named is));
      own = own_row s.orders sound.orders;
    }

-- ---- no other row has an order's id

other_ids : (ids : List Id) (o : OrderRow) (id : Id) → IsOther ids o.id → Contains ids id → id ≡ o.id → ⊥
other_ids ids o id others is same =
    absurd (true≢false (sym (same_id o.id) ∙ subst (λ (i : Id). is_id o.id i ≡ false) same (of_one (λ (other : Id). is_id o.id other ≡ false) ids id others is)))

others_of : (ids : List Id) (orders : List OrderRow) (o : OrderRow) → AreApart (map (λ (r : OrderRow). r.id) orders) ids → Contains orders o → IsOther ids o.id
others_of ids orders o apart is = of_one (IsOther ids) (map (λ (r : OrderRow). r.id) orders) o.id apart (to_map (λ (r : OrderRow). r.id) orders o is)

pub secrets_apart : (kept : Kept) → IsSound kept → (row : SecretRow) (o : OrderRow) → Contains kept.state.secrets row → Contains kept.state.orders o → row.id ≡ o.id → ⊥
secrets_apart kept sound row o there is =
    other_ids (secret_ids kept.state) o row.id (others_of (secret_ids kept.state) kept.state.orders o sound.apart.orders is) (to_map (λ (r : SecretRow). r.id) kept.state.secrets row there)

pub containers_apart : (kept : Kept) → IsSound kept → (row : ContainerRow) (o : OrderRow) → Contains kept.state.containers row → Contains kept.state.orders o → row.id ≡ o.id → ⊥
containers_apart kept sound row o there is =
    other_ids (container_ids kept.state) o row.id (others_of (container_ids kept.state) kept.state.orders o sound.apart.orders_too is) (to_map (λ (r : ContainerRow). r.id) kept.state.containers row there)
