-- What a host tells of its calls.
use Rattle.std.specs.Prelude.{◌≡◌, ℕ, ◌≤◌, min, List, ◌∷◌, length, take, Option, Some, None, Result, Ok, Err}
use Rattle.kms_host.specs.Faults.{Rose}
use Rattle.kms_host.specs.declared.call.Call.{Call}

-- What is told of a host: both files of the store as they were at first, the key files by name, and each call since
-- with its answer, the newest first. A moment is a number of calls.
pub record History : Type 0 where
  pub opening : List ℕ × List ℕ
  pub key_files : List (List ℕ × List ℕ)
  pub calls : List Call

-- the history with one call more
abbrev pub then_call : History → Call → History
then_call h c = record { opening = h.opening; key_files = h.key_files; calls = c ∷ h.calls }

-- What is told after a call was told before it too, and R ties the two. A host may stop telling.
pub record Tells (before after : Option History) (R : History → History → Type 0) : Type 0 where
  pub told : (now : History) → after ≡ Some now → (was : History) × (before ≡ Some was) × R was now

-- P holds of the history, where there is one
pub record WhereTold (history : Option History) (P : History → Type 0) : Type 0 where
  pub told : (now : History) → history ≡ Some now → P now

-- The count of calls that were out of memory never falls, and a host that told before a call and tells no more after
-- it is one whose count rose in that call.
pub record Stops (wanted wanted' : ℕ) (before after : Option History) : Type 0 where
  pub later : wanted ≤ wanted'
  pub cause : (was : History) → before ≡ Some was → after ≡ None → Rose wanted wanted'

-- the answer of a call that may fail, as it is recorded
abbrev pub answer : {T E : Type 0} → Result T E → Option T
answer (Ok x) = Some x
answer (Err e) = None

-- the bytes that a call put at the front of its room, as they are recorded
abbrev pub given : {E : Type 0} → List ℕ → Result ℕ E → Option (List ℕ)
given room (Ok n) = Some (take n room)
given room (Err e) = None

-- the same of a call whose fault has a cause
abbrev pub given_by_name : {E : Type 0} → List ℕ → Result ℕ E → Result (List ℕ) E
given_by_name room (Ok n) = Ok (take n room)
given_by_name room (Err e) = Err e

-- the bytes with which a call filled its room, as they are recorded
abbrev pub filled : {T E : Type 0} → List ℕ → Result T E → Option (List ℕ)
filled room (Ok x) = Some room
filled room (Err e) = None

-- the first n bytes of the room are the first of these, as many as fit
pub record HasFirst (bytes room : List ℕ) (n : ℕ) : Type 0 where
  pub count : n ≡ min (length room) (length bytes)
  pub same : take n room ≡ take n bytes
