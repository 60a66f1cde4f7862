-- What a turn starts from, and what it leaves.
use Rattle.std.specs.Prelude.{◌≡◌, ◌⊎◌, ℕ, ◌+◌, ◌*◌, ◌≤◌, ◌<◌, ◌==◌, List, [], length, Option, Some, Result, Ok, Err}
use Rattle.kms_host.specs.History.{History}
use Rattle.kms_host.specs.Faults.{Faults, Rose, NeverFalls}
use Rattle.kms_host.specs.Moment.{Since}
use Rattle.kms_host.specs.Line.{IsOpen}
use Rattle.kms_host.specs.declared.call.Call.{Call}
use Rattle.kms_core.specs.Settling.{IsOpened}
use Rattle.kms_core.specs.Steps.{Held, IsSettled}
use Rattle.kms_http.specs.Reply.{fault_reply_of}
use Rattle.kms_http.specs.MessageStream.{After, served, after_front}
use Rattle.kms_http.specs.declared.served.Served.{Served}
use Rattle.kms_http.specs.Messages.{front}
use Rattle.kms_http.specs.Sizes.{longest}
use Rattle.kms_http.specs.MessageStream.After.{Going, Over, Broken}
use Rattle.kms_http.specs.Messages.Front.{Whole, Bad}
use Rattle.kms_http.specs.declared.message.Message.{Message}
use Rattle.kms_world.specs.declared.refusal.Refusal.{Refusal}
use Rattle.kms_http.specs.declared.fault.FaultReply.TheVariants.{F1}
use Rattle.kms_world.specs.State.{State}
use Rattle.kms_serve.specs.Owing.{Owes, IsReplying, IsGiven, GoodAt, FaultingAt, EndedAt}
use Rattle.kms_serve.specs.Plan.{pipe_plan, most}
use Rattle.kms_serve.specs.RunStart.{RunStart, FromStore}
use Rattle.kms_serve.specs.declared.serving.Serving.{Serving}
use Rattle.kms_serve.specs.declared.serving.Turn.{Turn}
use Rattle.kms_serve.specs.declared.serving.Turn.TheVariants.{Went, Ended}
use Rattle.kms_serve.specs.declared.status.Status.{Status}
use Rattle.kms_serve.specs.declared.status.Status.TheVariants as status

-- What holds since the start of a run that serves line 0 over the store of this name, where the host tells, and where the key
-- file is good and the store stood for a state.
abbrev pub Holding : (endpoint key_file store : List ℕ) → (start now : Option History) → (RunStart → List Call → Type 0) → Type 0
Holding endpoint key_file store start now P = Since start now (λ was calls. FromStore (pipe_plan store key_file endpoint) was (λ b. P b calls))

-- a message was answered, and its steps wait
abbrev pub Owing : (endpoint key_file store : List ℕ) → (start now : Option History) → Serving → After → (reply : List ℕ) → Type 0
Owing endpoint key_file store start now s stand reply = Holding endpoint key_file store start now (λ b calls. Owes b s stand reply calls)

-- they are settled
abbrev pub Replying : (endpoint key_file store : List ℕ) → (start now : Option History) → Serving → After → (reply : List ℕ) → Type 0
Replying endpoint key_file store start now s stand reply = Holding endpoint key_file store start now (λ b calls. IsReplying b s stand reply calls)

-- all replies are given
abbrev pub Given : (endpoint key_file store : List ℕ) → (start now : Option History) → Serving → After → Type 0
Given endpoint key_file store start now s stand = Holding endpoint key_file store start now (λ b calls. IsGiven b s stand calls)

abbrev pub Good : (endpoint key_file store : List ℕ) → (start now : Option History) → Serving → Type 0
Good endpoint key_file store start now s = Holding endpoint key_file store start now (λ b calls. GoodAt b s calls)

-- a call of the store failed, and its fault is owed
abbrev pub Faulting : (endpoint key_file store : List ℕ) → (start now : Option History) → Type 0
Faulting endpoint key_file store start now = Holding endpoint key_file store start now (λ b calls. FaultingAt b (fault_reply_of F1) calls)

abbrev pub HasEnded : (endpoint key_file store : List ℕ) → (start now : Option History) → Status → Type 0
HasEnded endpoint key_file store start now ended = Holding endpoint key_file store start now (λ b calls. EndedAt b ended calls)

-- after a turn
abbrev pub Left : (endpoint key_file store : List ℕ) → (start now : Option History) → Serving → Turn → Type 0
Left endpoint key_file store start now s Went = Good endpoint key_file store start now s
Left endpoint key_file store start now s (Ended ended) = HasEnded endpoint key_file store start now ended

-- after what was answered is settled
abbrev pub IsSettledNow : {E : Type 0} → (endpoint key_file store : List ℕ) → (start now : Option History) → Serving → After → (reply : List ℕ) → Result (Unit {0}) E → Type 0
IsSettledNow endpoint key_file store start now s stand reply (Ok done) = Replying endpoint key_file store start now s stand reply
IsSettledNow endpoint key_file store start now s stand reply (Err fault) = Faulting endpoint key_file store start now

-- after its reply is given
abbrev pub IsGivenNow : (endpoint key_file store : List ℕ) → (start now : Option History) → Serving → After → Turn → Type 0
IsGivenNow endpoint key_file store start now s stand Went = Given endpoint key_file store start now s stand
IsGivenNow endpoint key_file store start now s stand (Ended ended) = HasEnded endpoint key_file store start now ended

-- Line 0 is open, and the engine's store stands for the state that it has, with no step that waits.
pub record CanServe (engine : Held) (h : History) : Type 0 where
  pub unshut : IsOpen 0 h
  pub state : State
  pub steps : ℕ
  pub settled : IsSettled engine.masters engine steps state h

-- Line 0 is open, and the engine's store stands for a state from which the steps that wait lead to the engine's.
pub record MaySettle (engine : Held) (h : History) : Type 0 where
  pub unshut : IsOpen 0 h
  pub before : State
  pub steps : ℕ
  pub state : State
  pub opened : IsOpened engine.masters engine.store h before steps state

-- before the first turn
abbrev pub serving_of : Held → Serving
serving_of engine = record { engine = engine; reader = record { held = []; passed = 0 }; routes = tt; count = 0 }

-- what is no message is still held
abbrev pub IsHeld : After → (before now : Serving) → Type 0
IsHeld (Going rest) before now = Unit {0}
IsHeld Over before now = Unit {0}
IsHeld Broken before now = (refusal : Refusal) × (now.reader ≡ before.reader) × (front now.reader.held ≡ Bad refusal)

-- What is served next was taken out of the reader, or is no message and still held; the line stands so after it. Nothing else was done.
pub record IsTaken (before now : Serving) (next : Served) (stand : After) : Type 0 where
  pub is_next : served (front before.reader.held) ≡ Some next
  pub stands : after_front (before.count + 1 == most) (front before.reader.held) ≡ Some stand
  pub stops : IsHeld stand before now
  pub place : now.reader.passed + length now.reader.held ≡ before.reader.passed + length before.reader.held
  pub engine : now.engine ≡ before.engine
  pub count : now.count ≡ before.count

-- a message was taken out of the reader
pub record IsTakenOut (before now : Serving) (message : Message) : Type 0 where
  pub whole : front before.reader.held ≡ Whole message now.reader.held
  pub place : now.reader.passed + length now.reader.held ≡ before.reader.passed + length before.reader.held
  pub engine : now.engine ≡ before.engine
  pub count : now.count ≡ before.count

-- how many bytes were fed
abbrev pub fed : Serving → ℕ
fed s = s.reader.passed + length s.reader.held

-- The line goes on, and what it was served is bounded: each message is, and so is what is held of the next ones.
pub record IsBounded (s : Serving) : Type 0 where
  pub few : s.count < most
  pub passed : s.reader.passed ≤ s.count * longest
  pub held : length s.reader.held ≤ longest + 65536

-- a turn that goes on answered a message or fed a byte
pub record Progress (before now : Serving) : Type 0 where
  pub more : before.count + fed before < now.count + fed now
  pub bounded : IsBounded now

-- what a line that is served can end with
abbrev pub IsServedEnd : Status → Type 0
IsServedEnd status.Done = Unit {0}
IsServedEnd status.NoMemory = Unit {0}
IsServedEnd status.LinkFault = Unit {0}
IsServedEnd status.StoreFault = Unit {0}
IsServedEnd (status.Rest place) = Unit {0}
IsServedEnd (status.Unreadable place) = Unit {0}
IsServedEnd status.Words = ⊥
IsServedEnd status.NoStore = ⊥
IsServedEnd status.StoreExists = ⊥
IsServedEnd status.DrawFault = ⊥
IsServedEnd (status.Damaged place) = ⊥
IsServedEnd status.KeyFileFault = ⊥
IsServedEnd (status.BadKeyFile bad) = ⊥
IsServedEnd (status.UnknownMaster project) = ⊥
IsServedEnd (status.DamagedPayload secret) = ⊥

abbrev pub GoesOn : Serving → Serving → Turn → Type 0
GoesOn before now Went = Progress before now
GoesOn before now (Ended ended) = IsServedEnd ended

-- what settling and giving can end with
abbrev pub IsBatchEnd : Turn → Type 0
IsBatchEnd Went = Unit {0}
IsBatchEnd (Ended ended) = (ended ≡ status.LinkFault) ⊎ (ended ≡ status.StoreFault)

-- no count of faults fell, and a fault is answered only where its count rose
pub record HasCauses (before now : Faults) (turn : Turn) : Type 0 where
  pub later : NeverFalls before now
  pub link : turn ≡ Ended status.LinkFault → Rose before.link now.link
  pub store : turn ≡ Ended status.StoreFault → Rose before.store now.store
