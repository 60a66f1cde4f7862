-- The law of orders over a run.
use Rattle.std.proofs.Common.{◌≡◌, ◌⊎◌, inl, inr, ℕ, false, List, [], ◌∷◌, length, Option, Some, refl, sym, subst, ◌∙◌}
use Rattle.std.specs.Prelude.{get_or}
use Rattle.std.specs.List.{Contains}
use Rattle.std.proofs.lemmas.Bool.{cases_Bool}
use Rattle.kms_world.specs.State.{State}
use Rattle.kms_world.specs.declared.id.Id.{Id}
use Rattle.kms_world.specs.declared.operation.Request.{Request}
use Rattle.kms_world.specs.declared.operation.Request.TheVariants.{Asking, Refusing}
use Rattle.kms_world.specs.declared.order.OrderRow.{OrderRow}
use Rattle.kms_model.specs.Ask.{effects_of}
use Rattle.kms_model.specs.Course.{AllFit, Course, Deed, Event, Fits, Mark, course_at, course_done, course_from, course_of, key_drawn, states_of, stores_at, stores_done, turn_in}
use Rattle.kms_model.specs.Course.Deed.{Asks, Works, Rewraps}
use Rattle.kms_model.specs.Course.Mark.{Unmarked, Draw, Memory}
use Rattle.kms_model.specs.Deletion.{NoneDeletes, deleted_by, deleted_by_request}
use Rattle.kms_model.specs.OrderLaw.{AreOrdersApart, BeforeAll, NextOrders, Orderly}
use Rattle.kms_model.specs.Pool.{IsPoolSound}
use Rattle.kms_model.specs.Requests.{asked_state, asked_stores}
use Rattle.kms_model.specs.Worker.{Turn, Worker, state_turned, turn_stores}
use Rattle.kms_model.specs.Worker.Turn.{Idle, Took, Gone, Failed, Drew, Made}
use Rattle.kms_model.specs.Worker.Worker.{Free}
use Rattle.kms_model.proofs.AskLaws.{unstored}
use Rattle.kms_model.proofs.OrderFollowing.{Follows, follows_fewer, follows_itself, follows_more, follows_on, follows_settled, later_orders}
use Rattle.kms_model.proofs.OrderMoves.{IsFewer, IsMore, IsSettled, apart_fewer, apart_more, apart_settled}
use Rattle.kms_model.proofs.OrderRequests.{request_moved, request_stays}
use Rattle.kms_model.proofs.OrderTurns.{IsStillThere, Means, made_settled, none_made_fewer, none_made_more, nothing_new, turn_means, turn_moved, turn_stays}
use Rattle.kms_model.proofs.PoolLaws.{all_free, pool_fewer, pool_more, pool_turned}

-- what holds wherever a run has come
pub record IsSoundCourse (c : Course) : Type 0 where
  pub orders : AreOrdersApart c.state
  pub pool : IsPoolSound c.state c.pool

-- what holds of a step to the next state
pub record IsNext (s after : State) : Type 0 where
  pub apart : AreOrdersApart after
  pub follows : Follows s after
  pub made : NextOrders s after

next_fewer : (s after : State) → AreOrdersApart s → IsFewer s after → IsNext s after
next_fewer s after apart f = record { apart = apart_fewer s after f apart; follows = follows_fewer s after f apart; made = none_made_fewer s after f apart }

next_more : (s after : State) → AreOrdersApart s → IsMore s after → IsNext s after
next_more s after apart m = record { apart = apart_more s after m apart; follows = follows_more s after m apart; made = none_made_more s after m apart }

next_settled : (s after : State) → AreOrdersApart s → IsSettled s after → IsNext s after
next_settled s after apart x = record { apart = apart_settled s after x apart; follows = follows_settled s after x apart; made = made_settled s after x apart }

next_asked : (s after : State) → AreOrdersApart s → IsFewer s after ⊎ IsMore s after → IsNext s after
next_asked s after apart (inl f) = next_fewer s after apart f
next_asked s after apart (inr m) = next_more s after apart m

next_turned : (s after : State) → AreOrdersApart s → IsFewer s after ⊎ IsSettled s after → IsNext s after
next_turned s after apart (inl f) = next_fewer s after apart f
next_turned s after apart (inr x) = next_settled s after apart x

pool_asked : (s after : State) (pool : List Worker) → AreOrdersApart s → IsPoolSound s pool → IsFewer s after ⊎ IsMore s after → IsPoolSound after pool
pool_asked s after pool apart sound (inl f) = pool_fewer s after pool f sound
pool_asked s after pool apart sound (inr m) = pool_more s after pool m apart sound

means_in : (c : Course) (w : ℕ) → IsSoundCourse c → Means c.state c.pool (get_or c.pool w Free) (turn_in c w)
means_in c w sound = turn_means c.state c.pool (get_or c.pool w Free) (sound.pool.each w)

-- ---- one event

next_done : (c : Course) (t : ℕ) (key : List ℕ) (deed : Deed) → IsSoundCourse c → IsNext c.state (course_done c t key deed).state
next_done c t key (Asks request) sound = next_asked c.state (asked_state c.state request t) sound.orders (request_moved c.state request t)
next_done c t key (Works w) sound =
    next_turned c.state (state_turned c.state t (turn_in c w)) sound.orders (turn_moved c.state c.pool (get_or c.pool w Free) t (turn_in c w) (means_in c w sound))
next_done c t key Rewraps sound = next_fewer c.state c.state sound.orders (nothing_new c.state)

pool_done : (c : Course) (e : Event) (key : List ℕ) (deed : Deed) → deed ≡ e.deed → Fits c e (Unmarked key) → IsSoundCourse c → IsPoolSound (course_done c e.time key deed).state (course_done c e.time key deed).pool
pool_done c e key (Asks request) is fits sound = pool_asked c.state (asked_state c.state request e.time) c.pool sound.orders sound.pool (request_moved c.state request e.time)
pool_done c e key (Works w) is fits sound =
    pool_turned c.state c.pool w e.time key (turn_in c w) sound.orders sound.pool (means_in c w sound) (subst (λ (d : Deed). length key ≡ key_drawn c d) (sym is) fits)
pool_done c e key Rewraps is fits sound = sound.pool

next_at : (c : Course) (e : Event) (m : Mark) → IsSoundCourse c → IsNext c.state (course_at c e m).state
next_at c e (Unmarked key) sound = next_done c e.time key e.deed sound
next_at c e Draw sound = next_fewer c.state c.state sound.orders (nothing_new c.state)
next_at c e Memory sound = next_fewer c.state c.state sound.orders (nothing_new c.state)

pool_at : (c : Course) (e : Event) (m : Mark) → Fits c e m → IsSoundCourse c → IsPoolSound (course_at c e m).state (course_at c e m).pool
pool_at c e (Unmarked key) fits sound = pool_done c e key e.deed refl fits sound
pool_at c e Draw fits sound = sound.pool
pool_at c e Memory fits sound = sound.pool

sound_at : (c : Course) (e : Event) (m : Mark) → Fits c e m → IsSoundCourse c → IsSoundCourse (course_at c e m)
sound_at c e m fits sound = record { orders = (next_at c e m sound).apart; pool = pool_at c e m fits sound }

-- an event that stores nothing leaves the state
unasked : (s : State) (request : Request) (t : ℕ) → asked_stores s request t ≡ false → asked_state s request t ≡ s
unasked s (Asking caller op) t none = unstored (effects_of s caller op t) s none
unasked s (Refusing refusal) t none = refl

unturned : (s : State) (t : ℕ) (turn : Turn) → turn_stores turn ≡ false → state_turned s t turn ≡ s
unturned s t Idle none = refl
unturned s t (Took o) none = refl
unturned s t Gone none = refl
unturned s t (Failed o cause) none = absurd cc
unturned s t (Drew o) none = refl
unturned s t (Made o key) none = absurd cc

undone : (c : Course) (t : ℕ) (key : List ℕ) (deed : Deed) → stores_done c t deed ≡ false → (course_done c t key deed).state ≡ c.state
undone c t key (Asks request) none = unasked c.state request t none
undone c t key (Works w) none = unturned c.state t (turn_in c w) none
undone c t key Rewraps none = refl

as_it_was : (c : Course) (e : Event) (m : Mark) → stores_at c e m ≡ false → (course_at c e m).state ≡ c.state
as_it_was c e (Unmarked key) none = undone c e.time key e.deed none
as_it_was c e Draw none = refl
as_it_was c e Memory none = refl

-- ---- all events

before_all : (s : State) (c : Course) (es : List Event) (ms : List Mark) → AreOrdersApart s → Follows s c.state → IsSoundCourse c → AllFit c es ms → BeforeAll s (states_of c es ms)
before_all s c [] ms apart follows sound fit = tt
before_all s c (e ∷ es) [] apart follows sound fit = tt
before_all s c (e ∷ es) (m ∷ ms) apart follows sound fit =
    let on = follows_on s c.state (course_at c e m).state apart follows (next_at c e m sound).follows in
    let rest = before_all s (course_at c e m) es ms apart on (sound_at c e m fit.0 sound) fit.1 in
    elim (cases_Bool (stores_at c e m)) [
      | inl stores ↦ rw stores (later_orders s (course_at c e m).state apart on, rest)
      | inr none ↦ rw none rest
    ]

pub orderly : (c : Course) (es : List Event) (ms : List Mark) → IsSoundCourse c → AllFit c es ms → Orderly c.state (states_of c es ms)
orderly c [] ms sound fit = later_orders c.state c.state sound.orders (follows_itself c.state sound.orders)
orderly c (e ∷ es) [] sound fit = later_orders c.state c.state sound.orders (follows_itself c.state sound.orders)
orderly c (e ∷ es) (m ∷ ms) sound fit =
    let after = course_at c e m in
    let next = next_at c e m sound in
    let sound_next = sound_at c e m fit.0 sound in
    let rest = orderly after es ms sound_next fit.1 in
    elim (cases_Bool (stores_at c e m)) [
      | inl stores ↦
          rw stores (
            later_orders c.state c.state sound.orders (follows_itself c.state sound.orders),
            next.made,
            (later_orders c.state after.state sound.orders next.follows, before_all c.state after es ms sound.orders next.follows sound_next fit.1),
            rest,
          )
      | inr none ↦ rw none (subst (λ (s : State). Orderly s (states_of after es ms)) (as_it_was c e m none) rest)
    ]

pub sound_of : (c : Course) (es : List Event) (ms : List Mark) → IsSoundCourse c → AllFit c es ms → IsSoundCourse (course_of c es ms)
sound_of c [] ms sound fit = sound
sound_of c (e ∷ es) [] sound fit = sound
sound_of c (e ∷ es) (m ∷ ms) sound fit = sound_of (course_at c e m) es ms (sound_at c e m fit.0 sound) fit.1

pub sound_first : (s : State) (workers old_keys : ℕ) → AreOrdersApart s → IsSoundCourse (course_from s workers old_keys)
sound_first s workers old_keys apart = record { orders = apart; pool = all_free s workers }

-- ---- orders stay

asked_stays : (after : State) (o : OrderRow) (named : Option Id) → Contains after.orders o ⊎ (named ≡ Some o.id) → (named ≡ Some o.id → ⊥) → IsStillThere after o
asked_stays after o named (inl is) other = (o, is, refl)
asked_stays after o named (inr gone) other = absurd (other gone)

done_stays : (c : Course) (t : ℕ) (key : List ℕ) (deed : Deed) (o : OrderRow) → IsSoundCourse c → Contains c.state.orders o → (deleted_by deed ≡ Some o.id → ⊥) → IsStillThere (course_done c t key deed).state o
done_stays c t key (Asks request) o sound is other = asked_stays (asked_state c.state request t) o (deleted_by_request request) (request_stays c.state request t sound.orders o is) other
done_stays c t key (Works w) o sound is other = turn_stays c.state t (turn_in c w) o is
done_stays c t key Rewraps o sound is other = (o, is, refl)

stays_at : (c : Course) (e : Event) (m : Mark) (o : OrderRow) → IsSoundCourse c → Contains c.state.orders o → (deleted_by e.deed ≡ Some o.id → ⊥) → IsStillThere (course_at c e m).state o
stays_at c e (Unmarked key) o sound is other = done_stays c e.time key e.deed o sound is other
stays_at c e Draw o sound is other = (o, is, refl)
stays_at c e Memory o sound is other = (o, is, refl)

none_deletes : (a b : Id) (es : List Event) → a ≡ b → NoneDeletes a es → NoneDeletes b es
none_deletes a b es same none = subst (λ (i : Id). NoneDeletes i es) same none

pub stays_of : (c : Course) (es : List Event) (ms : List Mark) (o : OrderRow) → IsSoundCourse c → AllFit c es ms → Contains c.state.orders o → NoneDeletes o.id es → IsStillThere (course_of c es ms).state o
stays_of c [] ms o sound fit is none = (o, is, refl)
stays_of c (e ∷ es) [] o sound fit is none = (o, is, refl)
stays_of c (e ∷ es) (m ∷ ms) o sound fit is none =
    let next = stays_at c e m o sound is none.0 in
    let last = stays_of (course_at c e m) es ms next.0 (sound_at c e m fit.0 sound) fit.1 next.1 (none_deletes o.id next.0.id es (sym next.2) none.1) in
    (last.0, last.1, last.2 ∙ next.2)
