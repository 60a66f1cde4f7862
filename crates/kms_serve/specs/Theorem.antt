-- The theorem of the top call.
use Rattle.std.specs.Prelude.{◌≡◌, ℕ, ◌≤◌, List, [], ◌∷◌, length, true, false, Option, Some, None}
use Rattle.kms_host.specs.History.{History}
use Rattle.kms_host.specs.Moment.{Since, by_moment}
use Rattle.kms_host.specs.declared.call.Call.{Call}
use Rattle.kms_model.specs.Course.{Mark}
use Rattle.kms_serve.specs.Answered.{Answered}
use Rattle.kms_serve.specs.RunStart.{RunStart, FromStore, HasNoStart}
use Rattle.kms_serve.specs.Ends.{AllGiven, IsEnd, IsPipe, HasOneLine, EndsWell, EndsInside, EndsUnreadable, EndsFailed, KeyFileFailed}
use Rattle.kms_serve.specs.Init.{Inits}
use Rattle.kms_serve.specs.Marks.{AreMarks}
use Rattle.kms_serve.specs.Opening.{BeginsWith, IsUnopened}
use Rattle.kms_serve.specs.Plan.{Plan}
use Rattle.kms_serve.specs.StoreCalls.{store_failed}
use Rattle.kms_serve.specs.declared.status.Status.{Status}
use Rattle.kms_serve.specs.declared.status.Status.TheVariants as status

-- The calls of the run determine its status, but for where it ran out of memory while the line went on.
pub record Exact (start : RunStart) (s : Status) (calls : List Call) (given : Type 0) : Type 0 where
  pub done : IsPipe start.plan.command → EndsWell start.plan.command start calls → given → store_failed calls ≡ false → s ≡ status.Done
  pub rest : IsPipe start.plan.command → (place : ℕ) → EndsInside start place calls → s ≡ status.Rest place
  pub unreadable : IsPipe start.plan.command → (place : ℕ) → EndsUnreadable start place calls → given → store_failed calls ≡ false → s ≡ status.Unreadable place
  pub link : HasOneLine start.plan.command → EndsFailed 0 calls → store_failed calls ≡ false → s ≡ status.LinkFault
  pub store : store_failed calls ≡ true → s ≡ status.StoreFault
  pub key_file : KeyFileFailed calls → s ≡ status.KeyFileFault

-- A run that began so and made these calls, the newest first, ended so. There is one list of marks, one for each event: by whom it was
-- answered, the plain key manager, or as out of memory or of random bytes. With it, at each moment of the run, what was sent is what
-- is due, as far as it went: what the plain key manager answers, or a constant reply where an event was answered with a fault, or
-- where a call of the store failed. And what a stop leaves of the store, if nothing was pending when the run began, stands for the
-- plain key manager's state after a number of these events that holds each one that was acknowledged.
pub record Serves (start : RunStart) (s : Status) (calls : List Call) : Type 0 where
  pub marks : List Mark
  pub each : (moment : ℕ) → moment ≤ length calls → Answered start marks (by_moment moment calls)
  pub are_marks : AreMarks start marks calls
  pub end : IsEnd start marks s calls
  pub exact : Exact start s calls (AllGiven start marks calls)

-- A run that serves a store reads its key file first, and then attaches the store. Where the key file is good and the store stands
-- for a state under its master keys the run begins with that. Else the run is refused, and what a stop leaves stands for what the
-- files did, if nothing was pending when the run began.
pub record Carries (p : Plan) (s : Status) (was : History) (calls : List Call) : Type 0 where
  pub begins : (name : List ℕ) (names : List (List ℕ)) → p.keys ≡ name ∷ names → BeginsWith name p.store calls
  pub serves : FromStore p was (λ start. Serves start s calls)
  pub refuses : HasNoStart p was → (name : List ℕ) (names : List (List ℕ)) → p.keys ≡ name ∷ names → IsUnopened name p.store s was calls

-- What a run promises for its words: those that create a store, or those that serve one. Where they are neither, that is the
-- status, and no call was made.
abbrev pub RunPromise : (create : Option (List ℕ)) → (serve : Option Plan) → (before after : Option History) → Status → Type 0
RunPromise (Some store) serve before after s = (s ≡ status.Words → ⊥) × Since before after (λ was calls. Inits store s was calls)
RunPromise None (Some plan) before after s = (s ≡ status.Words → ⊥) × Since before after (λ was calls. Carries plan s was calls)
RunPromise None None before after s = (s ≡ status.Words) × Since before after (λ was calls. calls ≡ [])

-- what a run that serves a store can end with
abbrev pub IsPipeStatus : Status → Type 0
IsPipeStatus status.Done = Unit {0}
IsPipeStatus status.NoStore = Unit {0}
IsPipeStatus status.NoMemory = Unit {0}
IsPipeStatus status.StoreFault = Unit {0}
IsPipeStatus status.LinkFault = Unit {0}
IsPipeStatus (status.Rest place) = Unit {0}
IsPipeStatus (status.Unreadable place) = Unit {0}
IsPipeStatus (status.Damaged place) = Unit {0}
IsPipeStatus status.KeyFileFault = Unit {0}
IsPipeStatus (status.BadKeyFile bad) = Unit {0}
IsPipeStatus (status.UnknownMaster project) = Unit {0}
IsPipeStatus (status.DamagedPayload secret) = Unit {0}
IsPipeStatus status.Words = ⊥
IsPipeStatus status.StoreExists = ⊥
IsPipeStatus status.DrawFault = ⊥

-- the words were understood, and no call failed
abbrev pub IsUnfaulted : Status → Type 0
IsUnfaulted status.Done = Unit {0}
IsUnfaulted status.NoStore = Unit {0}
IsUnfaulted status.StoreExists = Unit {0}
IsUnfaulted status.NoMemory = Unit {0}
IsUnfaulted (status.Rest place) = Unit {0}
IsUnfaulted (status.Unreadable place) = Unit {0}
IsUnfaulted (status.Damaged place) = Unit {0}
IsUnfaulted (status.BadKeyFile bad) = Unit {0}
IsUnfaulted (status.UnknownMaster project) = Unit {0}
IsUnfaulted (status.DamagedPayload secret) = Unit {0}
IsUnfaulted status.Words = ⊥
IsUnfaulted status.StoreFault = ⊥
IsUnfaulted status.LinkFault = ⊥
IsUnfaulted status.DrawFault = ⊥
IsUnfaulted status.KeyFileFault = ⊥
