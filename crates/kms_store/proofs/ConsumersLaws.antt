-- How many consumers each container has, when some come and go.
use Rattle.std.proofs.Common.{◌≡◌, ℕ, suc, ◌+◌, Bool, true, false, cond, List, [], ◌∷◌, length, refl, ap, subst, arith, inl, inr}
use Rattle.std.specs.Prelude.{filter}
use Rattle.std.specs.List.{list_any}
use Rattle.std.proofs.lemmas.Bool.{cases_Bool, eqb-true}
use Rattle.kms_world.specs.Effect.{drop_rows}
use Rattle.kms_world.specs.Id.{is_id}
use Rattle.kms_world.specs.declared.id.Id.{Id}
use Rattle.kms_world.specs.declared.container.ConsumerRow.{ConsumerRow}
use Rattle.kms_kept.proofs.RisingLaws.{one_id}
use Rattle.kms_store.specs.Consumers.{count_on}
use Rattle.kms_store.specs.Tally.{number_in}
use Rattle.kms_store.specs.declared.tally.Entry.{Entry}
use Rattle.kms_store.proofs.CountLaws.{count_left}

module _ {X : Type 0} (p : X → Bool) where
  none_parts : (x : X) (xs : List X) → length (filter p (x ∷ xs)) ≡ 0 → (p x ≡ false) × (length (filter p xs) ≡ 0)
  none_parts x xs none = elim (cases_Bool (p x)) [
    | inl t ↦ let some : suc (length (filter p xs)) ≡ 0 = rw t at none in absurd (omega (arith, some))
    | inr f ↦ (f, rw f at none)
  ]

  pub none_any : (xs : List X) → length (filter p xs) ≡ 0 → list_any p xs ≡ false
  none_any [] none = refl
  none_any (x ∷ xs) none = let parts = none_parts x xs none in rw (parts.0, none_any xs parts.1) refl

  pub none_dropped : (xs : List X) → length (filter p xs) ≡ 0 → drop_rows p xs ≡ xs
  none_dropped [] none = refl
  none_dropped (x ∷ xs) none = let parts = none_parts x xs none in rw parts.0 (ap (λ (l : List X). x ∷ l) (none_dropped xs parts.1))

-- those of a container that pass a test go
pub counts_left : (container : Id) (test : ConsumerRow → Bool) → ((d : ConsumerRow) → test d ≡ true → is_id container d.container ≡ true) → (ds : List ConsumerRow) (gone : ℕ) (old new : List (Entry Id))
    → gone ≡ length (filter test ds) → ((id : Id) → number_in is_id id old ≡ count_on id ds) → ((id : Id) → number_in is_id id new + cond (is_id id container) gone 0 ≡ number_in is_id id old)
    → (id : Id) → number_in is_id id new ≡ count_on id (drop_rows test ds)
counts_left container test on ds gone old new is each fewer id =
    let alike : (d : ConsumerRow) → test d ≡ true → is_id id d.container ≡ is_id id container = λ d t. ap (is_id id) (one_id d.container container (eqb-true d.container.0 container.0 (on d t))) in
    let left = count_left (λ (d : ConsumerRow). is_id id d.container) test (is_id id container) alike ds in
    let less : number_in is_id id new + cond (is_id id container) (length (filter test ds)) 0 ≡ number_in is_id id old = subst (λ (n : ℕ). number_in is_id id new + cond (is_id id container) n 0 ≡ number_in is_id id old) is (fewer id) in
    omega (arith, left, less, each id)
