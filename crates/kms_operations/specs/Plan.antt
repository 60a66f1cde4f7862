-- What operations come to over what is kept, where some put and show payloads.
use Rattle.std.specs.Prelude.{◌≡◌, ℕ, ◌<◌, ◌^◌, Bool, true, false, List, [], ◌∷◌, Option, Some, None, Result, Ok, Err}
use Rattle.kms_kept.specs.Kept.{Kept}
use Rattle.kms_model.specs.Alike.{shows_payload}
use Rattle.kms_model.specs.Done.{Done}
use Rattle.kms_record.specs.SecretPut.{IsInRange, row_of}
use Rattle.kms_record.specs.declared.secret_put.SecretPut.{SecretPut}
use Rattle.kms_secret.specs.Ranges.{IsPayloadInRange}
use Rattle.kms_world.specs.Effect.{Effect}
use Rattle.kms_world.specs.Effect as effects
use Rattle.kms_world.specs.Id.{id_at}
use Rattle.kms_world.specs.LookUp.{secret_of}
use Rattle.kms_world.specs.State.{State}
use Rattle.kms_world.specs.Times.{HasTimes, end_of_times}
use Rattle.kms_world.specs.declared.answer.Answer.TheVariants as answers
use Rattle.kms_world.specs.declared.id.Id.{Id}
use Rattle.kms_world.specs.declared.operation.Op.{Op}
use Rattle.kms_world.specs.declared.operation.Op.TheVariants.{GetPayload}
use Rattle.kms_world.specs.declared.payload.Payload.{Payload}
use Rattle.kms_world.specs.declared.refusal.CheckFault.{CheckFault}
use Rattle.kms_world.specs.declared.refusal.CheckFault.TheVariants.{Refused, NoMemory}
use Rattle.kms_world.specs.declared.refusal.Refusal.{Refusal}
use Rattle.kms_world.specs.declared.secret.SecretRow.{SecretRow}
use Rattle.kms_operations.specs.Outcome.{IsPossible, done_of}
use Rattle.kms_operations.specs.declared.outcome.NewPayload.{NewPayload}
use Rattle.kms_operations.specs.declared.outcome.Plan.{Plan}
use Rattle.kms_operations.specs.declared.outcome.Plan.TheVariants.{Makes, Puts, Shows}

-- the secret is put first, where it is new
abbrev pub with_secret : (tag : ℕ) → Option SecretPut → List Effect → List Effect
with_secret tag None rest = rest
with_secret tag (Some put) rest = effects.SecretPut (row_of tag put) ∷ rest

-- what a payload that is put does to the state under a store's tag
abbrev pub put_effects : (tag : ℕ) → NewPayload → List Effect
put_effects tag new = with_secret tag new.secret (effects.PayloadPut (id_at tag new.id) new.updated new.payload ∷ [])

abbrev pub put_done : (tag : ℕ) → NewPayload → Done
put_done tag new = record { answer = new.answer; effects = put_effects tag new }

-- What the plain key manager does over a state comes to this plan, or it is refused so, or there is no memory. A payload that is
-- shown is that of the secret that the plan names.
abbrev pub Plans : State → Result Plan CheckFault → Result Done Refusal → Type 0
Plans s (Ok (Makes outcome)) done = done ≡ Ok (done_of s.tag outcome)
Plans s (Ok (Puts new)) done = done ≡ Ok (put_done s.tag new)
Plans s (Ok (Shows id)) done = (payload : Payload) × (done ≡ Ok (record { answer = answers.Payload payload; effects = [] }))
Plans s (Err (Refused refusal)) done = done ≡ Err refusal
Plans s (Err NoMemory) done = Unit {0}

-- the one operation that shows a payload names its secret
abbrev pub IsPlanOf : Op → Plan → Type 0
IsPlanOf op (Makes outcome) = shows_payload op ≡ false
IsPlanOf op (Puts new) = shows_payload op ≡ false
IsPlanOf op (Shows id) = (accept : Option (List ℕ)) × (op ≡ GetPayload (Some id) accept)

-- it shows the payload of the secret under this id of a path
abbrev pub IsShownAt : Option Id → Plan → Type 0
IsShownAt id (Makes outcome) = ⊥
IsShownAt id (Puts new) = ⊥
IsShownAt id (Shows at) = id ≡ Some at

-- it shows no payload
abbrev pub shows_none : Plan → Bool
shows_none (Makes outcome) = true
shows_none (Puts new) = true
shows_none (Shows id) = false

-- the payload's secret is new, under the next id, or it is kept and has no payload
abbrev pub IsSecretFor : Kept → NewPayload → Option SecretPut → Type 0
IsSecretFor kept new (Some put) =
    IsInRange put × (put.id ≡ kept.state.ids) × (new.id ≡ put.id) × (new.updated ≡ put.updated) × (new.project ≡ put.project)
IsSecretFor kept new None =
    (row : SecretRow) × (secret_of (id_at kept.state.tag new.id) kept.state.secrets ≡ Some row) × (row.payload ≡ None) × (new.project ≡ row.project)

-- The answer's times have texts, and the payload can be put once it is sealed.
pub record CanPut (kept : Kept) (new : NewPayload) : Type 0 where
  pub times : HasTimes new.answer
  pub id : new.id < 2 ^ 62
  pub updated : new.updated < end_of_times
  pub payload : IsPayloadInRange new.payload
  pub secret : IsSecretFor kept new new.secret

abbrev pub IsPlanned : Kept → Plan → Type 0
IsPlanned kept (Makes outcome) = IsPossible kept outcome
IsPlanned kept (Puts new) = CanPut kept new
IsPlanned kept (Shows id) = Unit {0}
