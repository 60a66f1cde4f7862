-- The operations on the payloads of secrets.
use Rattle.std.specs.Prelude.{◌≡◌, ℕ, Bool, true, false, List, [], ◌∷◌, Option, Some, None, Result, Ok, is_none}
use Rattle.kms_secret.specs.Payload.{checked_payload}
use Rattle.kms_world.specs.Effect.{Effect, PayloadPut, with_payload}
use Rattle.kms_world.specs.State.{State}
use Rattle.kms_world.specs.declared.action.Action.TheVariants.{SecretDecrypt, SecretWrite}
use Rattle.kms_world.specs.declared.answer.Answer.TheVariants as answers
use Rattle.kms_world.specs.declared.caller.Caller.{Caller}
use Rattle.kms_world.specs.declared.id.Id.{Id}
use Rattle.kms_world.specs.declared.operation.PutShape.{PutShape}
use Rattle.kms_world.specs.declared.payload.Media.{Media}
use Rattle.kms_world.specs.declared.payload.Media.TheVariants.{TextPlain, OctetStream}
use Rattle.kms_world.specs.declared.payload.Payload.{Payload}
use Rattle.kms_world.specs.declared.refusal.Refusal.{Refusal}
use Rattle.kms_world.specs.declared.refusal.Refusal.TheVariants.{Conflict, NotAcceptable}
use Rattle.kms_world.specs.declared.reply.Media2.{Media2}
use Rattle.kms_world.specs.declared.reply.Media2.TheVariants as types
use Rattle.kms_world.specs.declared.secret.SecretRow.{SecretRow}
use Rattle.kms_model.specs.Accept.{admits}
use Rattle.kms_model.specs.Done.{Done, ◌>>=◌, only_if, there}
use Rattle.kms_model.specs.Secrets.{live_secret, secret_for}

-- the media type of the answer that shows a payload
abbrev pub type_of : Media → Media2
type_of TextPlain = types.TextPlain
type_of OctetStream = types.OctetStream

-- the payload of a secret that is there, where a client accepts its media type
abbrev pub payload_read : (accept : Option (List ℕ)) → SecretRow → Result Done Refusal
payload_read accept row = do
  payload ← there row.payload
  taken ← only_if (admits accept (type_of payload.media)) NotAcceptable
  Ok (record { answer = answers.Payload payload; effects = [] })

-- GET of a secret's payload
abbrev pub payload_shown : State → Caller → Option Id → (accept : Option (List ℕ)) → ℕ → Result Done Refusal
payload_shown s caller id accept t = do
  row ← secret_for s caller SecretDecrypt (live_secret s id t)
  payload_read accept row

-- PUT of a secret's payload, where it has none yet
abbrev pub payload_put : State → Caller → Option Id → PutShape → (body : List ℕ) → ℕ → Result Done Refusal
payload_put s caller id put body t = do
  row ← secret_for s caller SecretWrite (live_secret s id t)
  payload ← checked_payload put body
  first ← only_if (is_none row.payload) Conflict
  Ok (record { answer = answers.Empty 204; effects = PayloadPut row.id t payload ∷ [] })

-- what is answered is the payload of the secret, whose media type the client accepts, and nothing happens
pub record IsPayloadRead (accept : Option (List ℕ)) (row : SecretRow) (done : Done) : Type 0 where
  pub payload : Payload
  pub has : row.payload ≡ Some payload
  pub accepted : admits accept (type_of payload.media) ≡ true
  pub answer : done.answer ≡ answers.Payload payload
  pub effects : done.effects ≡ []

-- a new secret with the payload that its body has, if any
abbrev pub with_any_payload : (t : ℕ) → Option Payload → SecretRow → SecretRow
with_any_payload t None row = row
with_any_payload t (Some payload) row = with_payload t payload row

-- a payload is put
abbrev pub is_payload_put : Effect → Bool
is_payload_put (PayloadPut id t payload) = true
is_payload_put effect = false
