-- What is kept, opened under master keys.
use Rattle.std.specs.Prelude.{◌≡◌, ℕ, ◌≤◌, List, [], ◌∷◌, length, Option, Some, None, IfSome}
use Rattle.std.specs.List.{AllByRecursion, AllZip}
use Rattle.kms_fernet.specs.Token.{Opens}
use Rattle.kms_ring.specs.Ring.{IsUnwrapped}
use Rattle.kms_world.specs.LookUp.{secret_of}
use Rattle.kms_world.specs.State.{State}
use Rattle.kms_world.specs.declared.id.Id.{Id}
use Rattle.kms_world.specs.declared.payload.Payload.{Payload}
use Rattle.kms_world.specs.declared.secret.SecretRow.{SecretRow}
use Rattle.kms_record.specs.declared.key.WrappedKey.{WrappedKey}
use Rattle.kms_kept.specs.Kept.{Kept, key_of}

-- the wrapped key opens
pub record KeyOpens (masters : List (List ℕ)) (row : WrappedKey) : Type 0 where
  pub key : List ℕ
  pub opens : IsUnwrapped masters row.wrapped key

-- the token opens, under the project's key of this number, to 1 to 20,000 bytes
pub record OpensUnder (masters : List (List ℕ)) (keys : List WrappedKey) (project : List ℕ) (number : ℕ) (token bytes : List ℕ) : Type 0 where
  pub row : WrappedKey
  pub there : key_of project number keys ≡ Some row
  pub key : List ℕ
  pub unwraps : IsUnwrapped masters row.wrapped key
  pub opens : Opens key token bytes
  pub some : 1 ≤ length bytes
  pub few : length bytes ≤ 20000

-- the number of a key and, after that, a token, which opens under that key of the project
pub record OpensSealed (masters : List (List ℕ)) (keys : List WrappedKey) (project sealed bytes : List ℕ) : Type 0 where
  pub number : ℕ
  pub token : List ℕ
  pub is : sealed ≡ number ∷ token
  pub opens : OpensUnder masters keys project number token bytes

abbrev pub OpensPayload : (masters : List (List ℕ)) → List WrappedKey → (project : List ℕ) → (sealed plain : Option Payload) → Type 0
OpensPayload masters keys project None None = Unit {0}
OpensPayload masters keys project None (Some plain) = ⊥
OpensPayload masters keys project (Some sealed) None = ⊥
OpensPayload masters keys project (Some sealed) (Some plain) = (plain.media ≡ sealed.media) × OpensSealed masters keys project sealed.bytes plain.bytes

-- the second is the first with its payload opened
pub record OpensRow (masters : List (List ℕ)) (keys : List WrappedKey) (sealed plain : SecretRow) : Type 0 where
  pub same : plain ≡ record sealed { payload = plain.payload }
  pub payload : OpensPayload masters keys sealed.project sealed.payload plain.payload

-- all but the secrets
abbrev pub besides : State → State
besides s = record s { secrets = [] }

-- each wrapped key opens, each token opens, and the state is the kept one with these bytes
pub record Opened (masters : List (List ℕ)) (kept : Kept) (state : State) : Type 0 where
  pub keys : AllByRecursion (KeyOpens masters) kept.keys
  pub secrets : AllZip (OpensRow masters kept.keys) kept.state.secrets state.secrets
  pub others : besides state ≡ besides kept.state

-- the opened row of this id, of what is kept of it
pub record IsFoundOpened (masters : List (List ℕ)) (keys : List WrappedKey) (id : Id) (sealed : SecretRow) (rows : List SecretRow) : Type 0 where
  pub row : SecretRow
  pub found : secret_of id rows ≡ Some row
  pub opens : OpensRow masters keys sealed row

-- its payload, where it has one, has 1 to 20,000 bytes
abbrev pub HasFittingPayload : SecretRow → Type 0
HasFittingPayload row = IfSome row.payload (λ payload. (1 ≤ length payload.bytes) × (length payload.bytes ≤ 20000))
