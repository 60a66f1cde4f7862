-- The operations on secrets.
use Rattle.std.specs.Prelude.{ℕ, ◌^◌, Bool, true, List, [], ◌∷◌, Option, Some, None, Result, Ok, nat_lt, option_and_then, if◌then◌else◌}
use Rattle.kms_policy.specs.Policy.{Row}
use Rattle.kms_secret.specs.Secret.{checked_secret}
use Rattle.kms_secret.specs.declared.secret.NewSecret.{NewSecret}
use Rattle.kms_world.specs.Effect.{Effect, SecretPut, PayloadPut, Deleted}
use Rattle.kms_world.specs.Id.{id_at}
use Rattle.kms_world.specs.LookUp.{secret_of, acl_of}
use Rattle.kms_world.specs.Secret.{attributes_of}
use Rattle.kms_world.specs.State.{State}
use Rattle.kms_world.specs.declared.action.Action.{Action}
use Rattle.kms_world.specs.declared.action.Action.TheVariants.{SecretCreate, SecretGet, SecretDelete}
use Rattle.kms_world.specs.declared.id.Id.{Id}
use Rattle.kms_world.specs.declared.caller.Caller.{Caller}
use Rattle.kms_world.specs.declared.body.SecretBody.{SecretBody}
use Rattle.kms_world.specs.declared.payload.Payload.{Payload}
use Rattle.kms_world.specs.declared.quota.QuotaKind.TheVariants.{Secrets}
use Rattle.kms_world.specs.declared.secret.SecretRow.{SecretRow}
use Rattle.kms_world.specs.declared.refusal.Refusal.{Refusal}
use Rattle.kms_world.specs.declared.refusal.Refusal.TheVariants.{IdsSpent, NotAcceptable}
use Rattle.kms_world.specs.declared.answer.Answer.TheVariants.{Empty, Link, Secret}
use Rattle.kms_world.specs.declared.answer.Link.TheVariants.{Secret as SecretLink}
use Rattle.kms_world.specs.declared.reply.Media2.TheVariants.{Json}
use Rattle.kms_model.specs.Accept.{admits}
use Rattle.kms_model.specs.Done.{Done, ◌>>=◌, only_if, there}
use Rattle.kms_model.specs.Permission.{granted}
use Rattle.kms_model.specs.Quotas.{within_quota}

-- an id is left
abbrev pub has_id : State → Bool
has_id s = nat_lt s.ids (2 ^ 62)

abbrev pub next_id : State → Id
next_id s = id_at s.tag s.ids

-- a secret isn't there any more from its expiration on
abbrev pub is_live : ℕ → Option ℕ → Bool
is_live t None = true
is_live t (Some expiration) = nat_lt t expiration

-- what is there, where it passes the test
abbrev pub if_passes : {A : Type 0} → (A → Bool) → Option A → Option A
if_passes test None = None
if_passes test (Some x) = if test x then Some x else None

-- the secret under the id in a path, also where it has expired
abbrev pub any_secret : State → Option Id → Option SecretRow
any_secret s id = option_and_then (λ i. secret_of i s.secrets) id

-- the same, where it hasn't
abbrev pub live_secret : State → Option Id → ℕ → Option SecretRow
live_secret s id t = if_passes (λ row. is_live t row.expiration) (any_secret s id)

-- a secret as the policy sees it: with its own access list
abbrev pub secret_target : State → SecretRow → Row
secret_target s row = record { project = row.project; creator = row.creator; acl = acl_of row.id s.acls }

-- the secret, if there is one, and then if the policy grants the action on it
abbrev pub secret_for : State → Caller → Action → Option SecretRow → Result SecretRow Refusal
secret_for s caller action found = do
  row ← there found
  may ← granted caller action (Some (secret_target s row))
  Ok row

-- a new secret of the caller, without a payload
abbrev pub new_secret : State → Caller → NewSecret → ℕ → SecretRow
new_secret s caller new t = record {
  id = next_id s;
  project = caller.project;
  creator = caller.user;
  created = t;
  updated = t;
  name = new.name;
  algorithm = new.algorithm;
  bit_length = new.bit_length;
  mode = new.mode;
  kind = new.kind;
  expiration = new.expiration;
  payload = None;
  metadata = [];
}

-- the secret that a body asks for, of a caller who may make one
abbrev pub wanted : Caller → Result SecretBody Refusal → ℕ → Result NewSecret Refusal
wanted caller body t = do
  may ← granted caller SecretCreate None
  given ← body
  checked_secret given t

-- what happens where a new secret is posted, with the payload that its body has, if any
abbrev pub posted_effects : SecretRow → (t : ℕ) → Option Payload → List Effect
posted_effects row t None = SecretPut row ∷ []
posted_effects row t (Some payload) = SecretPut row ∷ PayloadPut row.id t payload ∷ []

-- POST of a secret
abbrev pub posted : State → Caller → Result SecretBody Refusal → ℕ → Result Done Refusal
posted s caller body t = do
  new ← wanted caller body t
  room ← within_quota s caller.project Secrets
  left ← only_if (has_id s) IdsSpent
  Ok (record { answer = Link 201 SecretLink (next_id s); effects = posted_effects (new_secret s caller new t) t new.payload })

-- GET of a secret's attributes
abbrev pub shown : State → Caller → Option Id → (accept : Option (List ℕ)) → ℕ → Result Done Refusal
shown s caller id accept t = do
  row ← secret_for s caller SecretGet (live_secret s id t)
  taken ← only_if (admits accept Json) NotAcceptable
  Ok (record { answer = Secret (attributes_of row); effects = [] })

-- DELETE of a secret, also of one that has expired, with all that hangs on it
abbrev pub deleted : State → Caller → Option Id → Result Done Refusal
deleted s caller id = do
  row ← secret_for s caller SecretDelete (any_secret s id)
  Ok (record { answer = Empty 204; effects = Deleted row.id ∷ [] })
