-- What workers hold after an event.
use Rattle.std.proofs.Common.{◌≡◌, ◌⊎◌, inl, inr, ℕ, zero, suc, ◌/◌, ◌≤◌, true, false, List, [], ◌∷◌, length, refl, sym, ap, subst, ◌∙◌, arith}
use Rattle.std.specs.Prelude.{get_or, replicate}
use Rattle.std.specs.List.{Contains, list_any}
use Rattle.std.proofs.lemmas.Bool.{or_left, or_right}
use Rattle.kms_world.specs.State.{State}
use Rattle.kms_world.specs.declared.id.Id.{Id}
use Rattle.kms_world.specs.declared.order.OrderRow.{OrderRow}
use Rattle.kms_model.specs.OrderLaw.{AreOrdersApart, WasGiven}
use Rattle.kms_model.specs.Pool.{HoldsWell, IsHeld, IsKeyFor, IsPoolSound}
use Rattle.kms_model.specs.Worker.{Turn, Worker, holds, is_offered, key_size, put_worker, state_turned, worker_turned}
use Rattle.kms_model.specs.Worker.Turn.{Idle, Took, Gone, Failed, Drew, Made}
use Rattle.kms_model.specs.Worker.Worker.{Free, Taken, Drawn}
use Rattle.kms_model.proofs.OrderMoves.{IsFewer, IsMore, IsOneOf, IsSettled, WasOne, later_given, more_from, not_next, was_one}
use Rattle.kms_model.proofs.OrderTurns.{Means, failed_settles, made_settles}
use Rattle.kms_model.proofs.PayloadReading.{same_id}
use Rattle.kms_model.proofs.SecretLaws.{one_id}

-- ---- free workers

none_held : (n worker : ℕ) → get_or (replicate n Free) worker Free ≡ Free
none_held zero worker = refl
none_held (suc n) zero = refl
none_held (suc n) (suc worker) = none_held n worker

free_holds_none : (id : Id) (w : Worker) → w ≡ Free → holds id w ≡ true → ⊥
free_holds_none id w free held = no (sym (ap (holds id) free) ∙ held)
  where
    no : false ≡ true → ⊥
    no e = cc

pub all_free : (s : State) (n : ℕ) → IsPoolSound s (replicate n Free)
all_free s n = record {
  each = λ worker. subst (HoldsWell s) (sym (none_held n worker)) tt;
  apart = λ worker other id held also. absurd (free_holds_none id (get_or (replicate n Free) worker Free) (none_held n worker) held);
}

-- ---- what is held stays so

-- what has this id in the later state was there in the earlier one as it is
abbrev StillAs : (s after : State) → Id → Type 0
StillAs s after id = (p : OrderRow) → Contains after.orders p → p.id ≡ id → Contains s.orders p

still_held : (s after : State) (id : Id) → after.tag ≡ s.tag → s.ids ≤ after.ids → StillAs s after id → IsHeld s id → IsHeld after id
still_held s after id tag ids still held = record {
  given = later_given s after id tag ids held.given;
  pending = λ o is same. held.pending o (still o is same) same;
}

still_key : (s after : State) (id : Id) (key : List ℕ) → StillAs s after id → IsKeyFor s id key → IsKeyFor after id key
still_key s after id key still fits = record {
  offered = λ o is same. fits.offered o (still o is same) same;
  size = λ o is same. fits.size o (still o is same) same;
}

still_well : (s after : State) (w : Worker) → after.tag ≡ s.tag → s.ids ≤ after.ids → ((id : Id) → WasGiven s id → holds id w ≡ true → StillAs s after id) → HoldsWell s w → HoldsWell after w
still_well s after Free tag ids still well = tt
still_well s after (Taken id) tag ids still well = still_held s after id tag ids (still id well.given (same_id id)) well
still_well s after (Drawn id key) tag ids still well =
    let as_was = still id well.0.given (same_id id) in
    (still_held s after id tag ids as_was well.0, still_key s after id key as_was well.1)

pub pool_fewer : (s after : State) (pool : List Worker) → IsFewer s after → IsPoolSound s pool → IsPoolSound after pool
pool_fewer s after pool f sound = record {
  each = λ worker. still_well s after (get_or pool worker Free) f.tag f.ids (λ id given held p is same. f.from p is) (sound.each worker);
  apart = sound.apart;
}

pub pool_more : (s after : State) (pool : List Worker) → IsMore s after → AreOrdersApart s → IsPoolSound s pool → IsPoolSound after pool
pool_more s after pool m apart sound = record {
  each = λ worker. still_well s after (get_or pool worker Free) m.tag (let e = m.ids in omega (arith, e)) (λ id given held p is same. by p id given same (more_from s after m apart p is)) (sound.each worker);
  apart = sound.apart;
}
  where
    by : (p : OrderRow) (id : Id) → WasGiven s id → p.id ≡ id → Contains s.orders p ⊎ (m.row ≡ p) → Contains s.orders p
    by p id given same (inl old) = old
    by p id given same (inr new) = absurd (not_next s id given (sym same ∙ ap (λ (r : OrderRow). r.id) (sym new) ∙ m.is_next))

-- a worker that doesn't hold the settled order
still_settled : (s after : State) (x : IsSettled s after) (w : Worker) → (holds x.order.id w ≡ true → ⊥) → HoldsWell s w → HoldsWell after w
still_settled s after x w other well = still_well s after w x.tag x.ids (λ id given held p is same. by p id held same (was_one s after x p is)) well
  where
    as_was : (p v : OrderRow) (id : Id) → holds id w ≡ true → v.id ≡ id → Contains s.orders v → IsOneOf x.order.id x.state x.time v p → Contains s.orders p
    as_was p v id held same there (inl h) = absurd (other (subst (λ (i : Id). holds i w ≡ true) (sym same ∙ h.0) held))
    as_was p v id held same there (inr h) = subst (Contains s.orders) (sym h.1) there

    by : (p : OrderRow) (id : Id) → holds id w ≡ true → p.id ≡ id → WasOne s after x p → Contains s.orders p
    by p id held same v = as_was p v.was id held (sym v.same ∙ same) v.there v.is

-- ---- the worker that has its turn

-- what a worker of the pool holds after another was put: the new one in its place, the others as they were
pub data IsPut (pool : List Worker) (n : ℕ) (w : Worker) (m : ℕ) (held : Worker) : Type 0 where
  New : m ≡ n → held ≡ w → IsPut pool n w m held
  Old : (m ≡ n → ⊥) → held ≡ get_or pool m Free → IsPut pool n w m held
  No : held ≡ Free → IsPut pool n w m held

behind_one : (v : Worker) (pool : List Worker) (n m : ℕ) (w held : Worker) → IsPut pool n w m held → IsPut (v ∷ pool) (suc n) w (suc m) held
behind_one v pool n m w held (New same is) = New (ap suc same) is
behind_one v pool n m w held (Old other is) = Old (λ same. other (omega (arith, same))) is
behind_one v pool n m w held (No is) = No is

pub is_put : (pool : List Worker) (n m : ℕ) (w : Worker) → IsPut pool n w m (get_or (put_worker n w pool) m Free)
is_put [] n m w = No refl
is_put (v ∷ pool) zero zero w = New refl refl
is_put (v ∷ pool) zero (suc m) w = Old (λ same. absurd (omega (arith, same))) refl
is_put (v ∷ pool) (suc n) zero w = Old (λ same. absurd (omega (arith, same))) refl
is_put (v ∷ pool) (suc n) (suc m) w = behind_one v pool n m w (get_or (put_worker n w pool) m Free) (is_put pool n m w)

nobody_holds : (pool : List Worker) (id : Id) (m : ℕ) → holds id (get_or pool m Free) ≡ true → list_any (holds id) pool ≡ true
nobody_holds [] id m held = held
nobody_holds (v ∷ pool) id zero held = or_left (holds id v) (list_any (holds id) pool) held
nobody_holds (v ∷ pool) id (suc m) held = or_right (holds id v) (list_any (holds id) pool) (nobody_holds pool id m held)

-- what the worker holds afterwards it held before, or nobody did
held_before : (s : State) (pool : List Worker) (v : Worker) (key : List ℕ) (turn : Turn) (id : Id) → Means s pool v turn → holds id (worker_turned key v turn) ≡ true
    → (holds id v ≡ true) ⊎ (list_any (holds id) pool ≡ false)
held_before s pool v key Idle id means held = inl held
held_before s pool v key (Took o) id means held = inr (subst (λ (i : Id). list_any (holds i) pool ≡ false) (one_id id o.id held) means.1)
held_before s pool v key Gone id means held = absurd cc
held_before s pool v key (Failed o cause) id means held = absurd cc
held_before s pool v key (Drew o) id means held = inl (subst (λ (i : Id). holds i v ≡ true) (one_id id o.id held) means.1)
held_before s pool v key (Made o made) id means held = absurd cc

-- its own
well_after : (s : State) (pool : List Worker) (v : Worker) (key : List ℕ) (t : ℕ) (turn : Turn) → AreOrdersApart s → Means s pool v turn → HoldsWell s v → length key ≡ key_size turn
    → HoldsWell (state_turned s t turn) (worker_turned key v turn)
well_after s pool v key t Idle apart means well size = well
well_after s pool v key t (Took o) apart means well size = record {
  given = apart.given o means.0.there;
  pending = λ p is same. ap (λ (r : OrderRow). r.state) (apart.one o p means.0.there is same) ∙ means.0.pending;
}
well_after s pool v key t Gone apart means well size = tt
well_after s pool v key t (Failed o cause) apart means well size = tt
well_after s pool v key t (Drew o) apart means well size = (
  record {
    given = apart.given o means.0.there;
    pending = λ p is same. ap (λ (r : OrderRow). r.state) (apart.one o p means.0.there is same) ∙ means.0.pending;
  },
  record {
    offered = λ p is same. subst (λ (r : OrderRow). is_offered r ≡ true) (sym (apart.one o p means.0.there is same)) means.2;
    size = λ p is same. subst (λ (r : OrderRow). length key ≡ r.bit_length / 8) (sym (apart.one o p means.0.there is same)) size;
  },
)
well_after s pool v key t (Made o made) apart means well size = tt

-- that of a worker which holds none of its orders
other_well : (s : State) (pool : List Worker) (v w : Worker) (t : ℕ) (turn : Turn) → Means s pool v turn → ((id : Id) → holds id w ≡ true → holds id v ≡ true → ⊥) → HoldsWell s w → HoldsWell (state_turned s t turn) w
other_well s pool v w t Idle means other well = well
other_well s pool v w t (Took o) means other well = well
other_well s pool v w t Gone means other well = well
other_well s pool v w t (Failed o cause) means other well =
    still_settled s (state_turned s t (Failed o cause)) (failed_settles s t o cause means.0) w (λ held. other o.id held means.1) well
other_well s pool v w t (Drew o) means other well = well
other_well s pool v w t (Made o made) means other well =
    still_settled s (state_turned s t (Made o made)) (made_settles s t o made means.0 means.2) w (λ held. other o.id held means.1) well

module _ (s : State) (pool : List Worker) (n t : ℕ) (key : List ℕ) (turn : Turn) (apart : AreOrdersApart s) (sound : IsPoolSound s pool)
    (means : Means s pool (get_or pool n Free) turn) (size : length key ≡ key_size turn) where
  each_put : (m : ℕ) (held : Worker) → IsPut pool n (worker_turned key (get_or pool n Free) turn) m held → HoldsWell (state_turned s t turn) held
  each_put m held (New same is) = subst (HoldsWell (state_turned s t turn)) (sym is) (well_after s pool (get_or pool n Free) key t turn apart means (sound.each n) size)
  each_put m held (Old other is) =
      subst (HoldsWell (state_turned s t turn)) (sym is)
      (other_well s pool (get_or pool n Free) (get_or pool m Free) t turn means (λ id held also. other (sound.apart m n id held also)) (sound.each m))
  each_put m held (No is) = subst (HoldsWell (state_turned s t turn)) (sym is) tt

  -- another holds what the one that had its turn holds
  not_both : (m : ℕ) (id : Id) → (m ≡ n → ⊥) → holds id (get_or pool m Free) ≡ true → (holds id (get_or pool n Free) ≡ true) ⊎ (list_any (holds id) pool ≡ false) → ⊥
  not_both m id other held (inl before) = other (sound.apart m n id held before)
  not_both m id other held (inr none) = no (sym (nobody_holds pool id m held) ∙ none)
    where
      no : true ≡ false → ⊥
      no e = cc

  by_turn : (id : Id) (held : Worker) → held ≡ worker_turned key (get_or pool n Free) turn → holds id held ≡ true → (holds id (get_or pool n Free) ≡ true) ⊎ (list_any (holds id) pool ≡ false)
  by_turn id held is holding = held_before s pool (get_or pool n Free) key turn id means (subst (λ (w : Worker). holds id w ≡ true) is holding)

  as_before : (m : ℕ) (id : Id) (held : Worker) → held ≡ get_or pool m Free → holds id held ≡ true → holds id (get_or pool m Free) ≡ true
  as_before m id held is holding = subst (λ (w : Worker). holds id w ≡ true) is holding

  apart_put : (k m : ℕ) (id : Id) (a b : Worker) → holds id a ≡ true → holds id b ≡ true
      → IsPut pool n (worker_turned key (get_or pool n Free) turn) k a → IsPut pool n (worker_turned key (get_or pool n Free) turn) m b → k ≡ m
  apart_put k m id a b held also (No is) second = absurd (free_holds_none id a is held)
  apart_put k m id a b held also (New same is) (No at) = absurd (free_holds_none id b at also)
  apart_put k m id a b held also (New same is) (New so at) = same ∙ sym so
  apart_put k m id a b held also (New same is) (Old other at) = absurd (not_both m id other (as_before m id b at also) (by_turn id a is held))
  apart_put k m id a b held also (Old other is) (No at) = absurd (free_holds_none id b at also)
  apart_put k m id a b held also (Old other is) (New so at) = absurd (not_both k id other (as_before k id a is held) (by_turn id b at also))
  apart_put k m id a b held also (Old other is) (Old apart_too at) = sound.apart k m id (as_before k id a is held) (as_before m id b at also)

  pub pool_turned : IsPoolSound (state_turned s t turn) (put_worker n (worker_turned key (get_or pool n Free) turn) pool)
  pool_turned = record {
    each = λ m. each_put m (get_or (put_worker n (worker_turned key (get_or pool n Free) turn) pool) m Free) (is_put pool n m (worker_turned key (get_or pool n Free) turn));
    apart = λ k m id held also.
        apart_put k m id (get_or (put_worker n (worker_turned key (get_or pool n Free) turn) pool) k Free) (get_or (put_worker n (worker_turned key (get_or pool n Free) turn) pool) m Free) held also
        (is_put pool n k (worker_turned key (get_or pool n Free) turn)) (is_put pool n m (worker_turned key (get_or pool n Free) turn));
  }
