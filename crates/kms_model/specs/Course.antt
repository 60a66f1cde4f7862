-- The plain key manager over a run: requests, turns of workers, and turns that wrap a project key anew, one after the other at their
-- times.
use Rattle.std.specs.Prelude.{◌≡◌, ℕ, ◌+◌, ◌-◌, ◌==◌, ◌&&◌, ◌||◌, nat_lt, List, [], ◌∷◌, ◌++◌, length, replicate, get_or, Bool, true, false, if◌then◌else◌}
use Rattle.kms_world.specs.State.{State}
use Rattle.kms_world.specs.declared.answer.Answer.{Answer}
use Rattle.kms_world.specs.declared.operation.Request.{Request}
use Rattle.kms_model.specs.Requests.{asked_answer, asked_puts, asked_state, asked_stores}
use Rattle.kms_model.specs.Worker.{Worker, Turn, turn_of, state_turned, worker_turned, put_worker, turn_stores, turn_draws, key_size}
use Rattle.kms_model.specs.Worker.Worker.{Free}

-- what happens
pub data Deed : Type 0 where
  Asks : Request → Deed
  Works : (worker : ℕ) → Deed
  Rewraps : Deed

pub record Event : Type 0 where
  pub deed : Deed
  pub time : ℕ

-- How an event was answered: by the plain key manager, with the bytes that were drawn for the key of an order, if any; or with a
-- fault: no random bytes could be drawn, or there was no memory.
pub data Mark : Type 0 where
  Unmarked : (key : List ℕ) → Mark
  Draw : Mark
  Memory : Mark

-- What a run has come to: the state, what the workers hold, and how many project keys are left that don't open under the first
-- master key. A key that a run adds is under the first, so there are never more.
pub record Course : Type 0 where
  pub state : State
  pub pool : List Worker
  pub old_keys : ℕ

-- where a run begins: all workers are free
abbrev pub course_from : State → (workers old_keys : ℕ) → Course
course_from s workers old_keys = record { state = s; pool = replicate workers Free; old_keys = old_keys }

abbrev pub turn_in : Course → (worker : ℕ) → Turn
turn_in c worker = turn_of c.state c.pool worker

-- ---- an event without a fault

abbrev pub course_done : Course → (t : ℕ) → (key : List ℕ) → Deed → Course
course_done c t key (Asks request) = record c { state = asked_state c.state request t }
course_done c t key (Works w) = record c {
  state = state_turned c.state t (turn_in c w);
  pool = put_worker w (worker_turned key (get_or c.pool w Free) (turn_in c w)) c.pool;
}
course_done c t key Rewraps = record c { old_keys = c.old_keys - 1 }

abbrev pub stores_done : Course → (t : ℕ) → Deed → Bool
stores_done c t (Asks request) = asked_stores c.state request t
stores_done c t (Works w) = turn_stores (turn_in c w)
stores_done c t Rewraps = nat_lt 0 c.old_keys

-- it draws random bytes, a payload's or a key's: so it may be answered that there are none
abbrev pub draws : Course → (t : ℕ) → Deed → Bool
draws c t (Asks request) = asked_puts c.state request t
draws c t (Works w) = turn_draws (turn_in c w)
draws c t Rewraps = nat_lt 0 c.old_keys

-- It takes memory: so it may be answered that there is none. A turn that takes an order, finds it gone or draws its key takes
-- none, and neither does one that finds each key wrapped under the first master key.
abbrev pub takes_memory : Course → (t : ℕ) → Deed → Bool
takes_memory c t (Asks request) = true
takes_memory c t (Works w) = turn_stores (turn_in c w)
takes_memory c t Rewraps = nat_lt 0 c.old_keys

-- how many bytes it draws for the key of an order
abbrev pub key_drawn : Course → Deed → ℕ
key_drawn c (Asks request) = 0
key_drawn c (Works w) = key_size (turn_in c w)
key_drawn c Rewraps = 0

-- ---- an event with its mark; one with a fault has no effect

-- what is told of an event on its line
pub data Outcome : Type 0 where
  Answers : Answer → Outcome
  NoRandom : Outcome
  NoMemory : Outcome
  Silent : Outcome

abbrev pub outcome_of : Course → (t : ℕ) → Mark → Deed → Outcome
outcome_of c t (Unmarked key) (Asks request) = Answers (asked_answer c.state request t)
outcome_of c t Draw (Asks request) = NoRandom
outcome_of c t Memory (Asks request) = NoMemory
outcome_of c t mark (Works w) = Silent
outcome_of c t mark Rewraps = Silent

abbrev pub outcome_at : Course → Event → Mark → Outcome
outcome_at c e m = outcome_of c e.time m e.deed

abbrev pub course_at : Course → Event → Mark → Course
course_at c e (Unmarked key) = course_done c e.time key e.deed
course_at c e Draw = c
course_at c e Memory = c

abbrev pub stores_at : Course → Event → Mark → Bool
stores_at c e (Unmarked key) = stores_done c e.time e.deed
stores_at c e Draw = false
stores_at c e Memory = false

-- which mark an event may have
abbrev pub Fits : Course → Event → Mark → Type 0
Fits c e (Unmarked key) = length key ≡ key_drawn c e.deed
Fits c e Draw = draws c e.time e.deed ≡ true
Fits c e Memory = takes_memory c e.time e.deed ≡ true

-- ---- all events, one after the other; a run stops where the marks do

abbrev pub course_of : Course → List Event → List Mark → Course
course_of c [] marks = c
course_of c (e ∷ es) [] = c
course_of c (e ∷ es) (m ∷ ms) = course_of (course_at c e m) es ms

-- an event that stores is one step
abbrev pub steps_if : Bool → ℕ
steps_if stores = if stores then 1 else 0

abbrev pub steps_of : Course → List Event → List Mark → ℕ
steps_of c [] marks = 0
steps_of c (e ∷ es) [] = 0
steps_of c (e ∷ es) (m ∷ ms) = steps_if (stores_at c e m) + steps_of (course_at c e m) es ms

abbrev pub outcomes_of : Course → List Event → List Mark → List Outcome
outcomes_of c [] marks = []
outcomes_of c (e ∷ es) [] = []
outcomes_of c (e ∷ es) (m ∷ ms) = outcome_at c e m ∷ outcomes_of (course_at c e m) es ms

-- each event has a mark that it may have
abbrev pub AllFit : Course → List Event → List Mark → Type 0
AllFit c [] marks = Unit {0}
AllFit c (e ∷ es) [] = Unit {0}
AllFit c (e ∷ es) (m ∷ ms) = Fits c e m × AllFit (course_at c e m) es ms

-- the state after each event that is a step, in order
abbrev pub states_of : Course → List Event → List Mark → List State
states_of c [] marks = []
states_of c (e ∷ es) [] = []
states_of c (e ∷ es) (m ∷ ms) =
    if stores_at c e m then (course_at c e m).state ∷ states_of (course_at c e m) es ms else states_of (course_at c e m) es ms

-- one of these events, but for the first so many, draws random bytes
abbrev pub some_draw : (skipped : ℕ) → Course → List Event → List Mark → Bool
some_draw skipped c [] marks = false
some_draw skipped c (e ∷ es) [] = (skipped == 0) && draws c e.time e.deed
some_draw skipped c (e ∷ es) (m ∷ ms) = ((skipped == 0) && draws c e.time e.deed) || some_draw (skipped - 1) (course_at c e m) es ms

-- how many of these marks say that no random bytes could be drawn
abbrev pub draw_marks : List Mark → ℕ
draw_marks [] = 0
draw_marks (Unmarked key ∷ ms) = draw_marks ms
draw_marks (Draw ∷ ms) = draw_marks ms + 1
draw_marks (Memory ∷ ms) = draw_marks ms

-- the bytes that were drawn for keys of orders
abbrev pub keys_of : List Mark → List ℕ
keys_of [] = []
keys_of (Unmarked key ∷ ms) = key ++ keys_of ms
keys_of (Draw ∷ ms) = keys_of ms
keys_of (Memory ∷ ms) = keys_of ms
