-- Consumers as they come and go.
use Rattle.std.proofs.Common.{◌≡◌, ℕ, ◌<◌, ◌&&◌, Bool, true, false, List, [], ◌∷◌, ◌++◌, cond, refl, sym, ap, subst, ◌∙◌, not}
use Rattle.std.specs.Prelude.{filter, is_some}
use Rattle.std.specs.List.{list_any}
use Rattle.std.proofs.lemmas.Bool.{and_from, eq-eqb}
use Rattle.kms_box.specs.Ranges.{IsConsumerInRange}
use Rattle.kms_kept.specs.Kept.{Kept}
use Rattle.kms_model.specs.Consumers.{is_there, new_consumer}
use Rattle.kms_model.specs.Containers.{view_of}
use Rattle.kms_record.specs.Base.{count_of}
use Rattle.kms_record.specs.declared.change.Change.{Change}
use Rattle.kms_record.specs.declared.change.Change.TheVariants.{ConsumerAdded, ConsumerDropped}
use Rattle.kms_world.specs.Effect.{ConsumerAdded as Added, ConsumerDropped as Dropped, after_effect, is_consumer}
use Rattle.kms_world.specs.Id.{is_id}
use Rattle.kms_world.specs.LookUp.{container_of}
use Rattle.kms_world.specs.State.{State}
use Rattle.kms_world.specs.Times.{end_of_times}
use Rattle.kms_world.specs.declared.answer.ContainerView.{ContainerView}
use Rattle.kms_world.specs.declared.container.ConsumerRow.{ConsumerRow}
use Rattle.kms_world.specs.declared.container.ContainerRow.{ContainerRow}
use Rattle.kms_world.specs.declared.id.Id.{Id}
use Rattle.kms_operations.specs.Found.{IsKeptContainer}
use Rattle.kms_operations.specs.Outcome.{Fits}
use Rattle.kms_operations.proofs.FitLaws.{count_fits}

-- ---- lists

pub filter_last : {X : Type 0} (f : X → Bool) (xs : List X) (x : X) → f x ≡ true → filter f (xs ++ x ∷ []) ≡ filter f xs ++ x ∷ []
filter_last f [] x is = rw is refl
filter_last f (y ∷ ys) x is = step (f y) (filter_last f ys x is)
  where
    step : (b : Bool) → filter f (ys ++ x ∷ []) ≡ filter f ys ++ x ∷ [] → cond b (y ∷ filter f (ys ++ x ∷ [])) (filter f (ys ++ x ∷ [])) ≡ cond b (y ∷ filter f ys) (filter f ys) ++ x ∷ []
    step true e = ap (λ zs. y ∷ zs) e
    step false e = e

pub filter_twice : {X : Type 0} (f g : X → Bool) (xs : List X) → filter f (filter g xs) ≡ filter (λ x. f x && g x) xs
filter_twice f g [] = refl
filter_twice f g (x ∷ xs) = step (f x) refl (g x) (filter_twice f g xs)
  where
    step : (a : Bool) → f x ≡ a → (b : Bool) → filter f (filter g xs) ≡ filter (λ y. f y && g y) xs
        → filter f (cond b (x ∷ filter g xs) (filter g xs)) ≡ cond (a && b) (x ∷ filter (λ y. f y && g y) xs) (filter (λ y. f y && g y) xs)
    step true is true e = rw is (ap (λ zs. x ∷ zs) e)
    step true is false e = e
    step false is true e = rw is e
    step false is false e = e

pub own_id : (id : Id) → is_id id id ≡ true
own_id id = eq-eqb id.0 id.0 refl

-- ---- containers as they are shown

pub shown_with : (s : State) (row : ContainerRow) (pair : List ℕ × List ℕ) (t : ℕ) (view : ContainerView) (new : ConsumerRow) (consumers : List ConsumerRow)
    → view ≡ view_of s row → new ≡ new_consumer row.id pair t → consumers ≡ view.consumers ++ new ∷ []
    → (let shown : ContainerView = record { row = view.row; consumers = consumers } in shown ≡ view_of (after_effect (Added (new_consumer row.id pair t)) s) row)
shown_with s row pair t view new consumers viewed made pushed =
    let own = λ (r : ConsumerRow). is_id row.id r.container in
    let same : view.row ≡ row = ap (λ (v : ContainerView). v.row) viewed in
    let all : consumers ≡ filter own (s.consumers ++ new_consumer row.id pair t ∷ []) =
    pushed
    ∙ ap (λ (v : ContainerView). v.consumers ++ new ∷ []) viewed
    ∙ ap (λ (r : ConsumerRow). filter own s.consumers ++ r ∷ []) made
    ∙ sym (filter_last own s.consumers (new_consumer row.id pair t) (own_id row.id)) in
    cc (same, all)

pub shown_without : (s : State) (row : ContainerRow) (pair : List ℕ × List ℕ) (copy : ContainerRow) (listed consumers : List ConsumerRow)
    → copy ≡ row → listed ≡ s.consumers → consumers ≡ filter (λ r. is_id row.id r.container && not (is_consumer row.id pair.0 pair.1 r)) listed
    → (let shown : ContainerView = record { row = copy; consumers = consumers } in shown ≡ view_of (after_effect (Dropped row.id pair.0 pair.1) s) row)
shown_without s row pair copy listed consumers copied all kept =
    let own = λ (r : ConsumerRow). is_id row.id r.container in
    let other = λ (r : ConsumerRow). not (is_consumer row.id pair.0 pair.1 r) in
    let others : consumers ≡ filter own (filter other s.consumers) =
    kept ∙ ap (filter (λ (r : ConsumerRow). own r && other r)) all ∙ sym (filter_twice own other s.consumers) in
    cc (copied, others)

-- ---- changes

added_at : (n : ℕ) (pair : List ℕ × List ℕ) (t : ℕ) → Change
added_at n pair t = ConsumerAdded (record { container = n; name = pair.0; url = pair.1; created = t })

pub addition_fits : (kept : Kept) (row : ContainerRow) (pair : List ℕ × List ℕ) (n t : ℕ) → IsKeptContainer kept row → n ≡ count_of row.id → IsConsumerInRange pair → t < end_of_times → is_there kept.state row.id pair ≡ false
    → Fits kept (ConsumerAdded (record { container = n; name = pair.0; url = pair.1; created = t }))
unfolding added_at
addition_fits kept row pair n t is same range time new = subst (λ (m : ℕ). Fits kept (added_at m pair t)) (sym same) (record {
  range = record { container = count_fits row.id; name = range.name; url = range.url; created = time };
  rows = refl;
  applies = subst (λ (i : Id). (is_some (container_of i kept.state.containers) && not (list_any (is_consumer i pair.0 pair.1) kept.state.consumers)) ≡ true) (sym is.id)
      (and_from _ _ (ap is_some is.here) (ap not new));
})

dropped_at : (n : ℕ) (pair : List ℕ × List ℕ) → Change
dropped_at n pair = ConsumerDropped (record { container = n; name = pair.0; url = pair.1 })

pub removal_fits : (kept : Kept) (row : ContainerRow) (pair : List ℕ × List ℕ) (n : ℕ) → IsKeptContainer kept row → n ≡ count_of row.id → IsConsumerInRange pair → is_there kept.state row.id pair ≡ true
    → Fits kept (ConsumerDropped (record { container = n; name = pair.0; url = pair.1 }))
unfolding dropped_at
removal_fits kept row pair n is same range there = subst (λ (m : ℕ). Fits kept (dropped_at m pair)) (sym same) (record {
  range = record { container = count_fits row.id; name = range.name; url = range.url };
  rows = refl;
  applies = subst (λ (i : Id). list_any (is_consumer i pair.0 pair.1) kept.state.consumers ≡ true) (sym is.id) there;
})
