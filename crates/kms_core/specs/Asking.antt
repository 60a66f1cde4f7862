-- What an operation draws, as the host's calls have it, the newest first, and what its step is made of.
use Rattle.std.specs.Prelude.{◌≡◌, ◌⊎◌, ℕ, Bool, List, [], ◌∷◌, true, Option, Some, None, Result, Ok, Err, IsErrOf}
use Rattle.kms_host.specs.Faults.{Faults, NeverFalls, Rose}
use Rattle.kms_host.specs.declared.call.Call.{Call}
use Rattle.kms_host.specs.declared.call.Failed.{Failed}
use Rattle.kms_world.specs.State.{State}
use Rattle.kms_world.specs.declared.caller.Caller.{Caller}
use Rattle.kms_world.specs.declared.operation.Op.{Op}
use Rattle.kms_model.specs.Ask.{puts_payload}
use Rattle.kms_world.specs.declared.payload.Media.{Media}
use Rattle.kms_record.specs.declared.change.Change.{Change}
use Rattle.kms_record.specs.declared.secret_put.SecretPut.{SecretPut}
use Rattle.kms_operations.specs.Outcome.{is_of_rows}
use Rattle.kms_operations.specs.declared.outcome.NewPayload.{NewPayload}
use Rattle.kms_record.specs.Grammar.{IsStepInRange}
use Rattle.kms_store.specs.Store.{IsReserved}
use Rattle.kms_sealing.specs.Drawing.{AreSealingDraws, Draws, drawn_calls}
use Rattle.kms_sealing.specs.Sealed.{IsSealedFor, post_changes, put_changes}
use Rattle.kms_sealing.specs.declared.drawing.Drawn.{Drawn}
use Rattle.kms_sealing.specs.declared.sealing.Sealed.{Sealed}
use Rattle.kms_core.specs.Steps.{Held, HasState}
use Rattle.kms_core.specs.declared.asked.Asked.{Asked}
use Rattle.kms_core.specs.declared.asked.AskFault.{AskFault}
use Rattle.kms_core.specs.declared.asked.AskFault.TheVariants.{NoDraw, NoMemory}
use Rattle.kms_core.specs.declared.asked.PreparedStep.{PreparedStep}

-- The changes that put a sealed payload: that of a secret that is put with it, or of one that is there.
abbrev pub sealed_changes : Sealed → (new : Option SecretPut) → (secret updated : ℕ) → Media → List Change
sealed_changes sealed None secret updated media = put_changes sealed secret updated media
sealed_changes sealed (Some put) secret updated media = post_changes sealed put media

-- The step seals a payload with what was drawn, at this moment: its token has the vector that was drawn for it, and is under the
-- project's key of the greatest number, or under the key that was drawn, which the step puts first.
pub record SealsPayload (engine : Held) (moment : ℕ) (drawn : Drawn) (step : PreparedStep) : Type 0 where
  pub project : List ℕ
  pub plain : List ℕ
  pub sealed : Sealed
  pub is_sealed : IsSealedFor engine.masters engine.store.stored.kept.keys project moment plain drawn sealed
  pub new : Option SecretPut
  pub secret : ℕ
  pub updated : ℕ
  pub media : Media
  pub changes : step.step.changes ≡ sealed_changes sealed new secret updated media
  pub key : step.key ≡ sealed.new

-- The step that was reserved last puts this payload, sealed so.
pub record IsSealedStep (engine : Held) (new : NewPayload) (sealed : Sealed) (step : Option PreparedStep) : Type 0 where
  pub made : PreparedStep
  pub is : step ≡ Some made
  pub changes : made.step.changes ≡ sealed_changes sealed new.secret new.id new.updated new.payload.media
  pub range : IsStepInRange made.step.changes
  pub reserved : IsReserved engine.store.stored made.step
  pub key : made.key ≡ sealed.new

-- one change of rows: it puts no key and no token
abbrev pub SealsNothing : PreparedStep → Type 0
SealsNothing step = (change : Change) × (step.step.changes ≡ change ∷ []) × (is_of_rows change ≡ true)

-- these calls drew what the step is made of
abbrev pub IsMadeOf : Held → (moment : ℕ) → Option PreparedStep → List Call → Type 0
IsMadeOf engine moment None calls = calls ≡ []
IsMadeOf engine moment (Some step) calls =
    (SealsNothing step × (calls ≡ [])) ⊎ ((drawn : Drawn) × SealsPayload engine moment drawn step × (calls ≡ drawn_calls drawn))

-- the newest of these draws failed
abbrev pub FailsToDraw : List Call → Type 0
FailsToDraw calls = (needed : Bool) × (failed : Failed) × Draws needed (Err failed) calls

-- what is drawn where there is an answer, and where there is none
abbrev pub AsksWith : Held → (moment : ℕ) → Result Asked AskFault → List Call → Type 0
AsksWith engine moment (Ok asked) calls = IsMadeOf engine moment asked.step calls
AsksWith engine moment (Err NoDraw) calls = FailsToDraw calls
AsksWith engine moment (Err NoMemory) calls = (calls ≡ []) ⊎ ((drawn : Drawn) × (calls ≡ drawn_calls drawn))

-- What was drawn for an operation: something only where it puts a payload, and the step is made of that.
pub record DrawsToAsk (engine : Held) (caller : Caller) (op : Op) (moment : ℕ) (result : Result Asked AskFault) (calls : List Call) : Type 0 where
  pub made : AsksWith engine moment result calls
  pub sizes : AreSealingDraws calls
  pub needed : (calls ≡ []) ⊎ ((s : State) → HasState engine s → puts_payload s caller op moment ≡ true)

-- No count falls, and that nothing could be drawn is answered only where the count of failed draws rose.
pub record HasDrawCause {T : Type 0} (before now : Faults) (result : Result T AskFault) : Type 0 where
  pub later : NeverFalls before now
  pub failed : IsErrOf result NoDraw → Rose before.draw now.draw
