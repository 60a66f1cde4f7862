-- Sealed payloads: what their tokens and keys are, and what puts them.
use Rattle.std.specs.Prelude.{◌≡◌, ℕ, true, List, [], ◌∷◌, ◌++◌, Option, Some, None}
use Rattle.kms_fernet.specs.Token.{IsToken}
use Rattle.kms_ring.specs.Ring.{IsUnwrapped, IsWrapped}
use Rattle.kms_world.specs.declared.payload.Media.{Media}
use Rattle.kms_record.specs.declared.change.Change.{Change}
use Rattle.kms_record.specs.declared.change.Change.TheVariants.{KeyAdded, PayloadPut}
use Rattle.kms_record.specs.declared.key.WrappedKey.{WrappedKey}
use Rattle.kms_record.specs.declared.secret_put.SecretPut.{SecretPut as Put}
use Rattle.kms_kept.specs.Kept.{Kept, Records, applies, insert_key}
use Rattle.kms_opened.specs.Steps.{posted_changes}
use Rattle.kms_sealing.specs.Places.{IsLatest}
use Rattle.kms_sealing.specs.declared.drawing.Drawn.{Drawn}
use Rattle.kms_sealing.specs.declared.drawing.KeyDraw.{KeyDraw}
use Rattle.kms_sealing.specs.declared.sealing.NewKey.{NewKey}
use Rattle.kms_sealing.specs.declared.sealing.Sealed.{Sealed}

-- a new key as it is stored
abbrev pub wrapped_row : NewKey → WrappedKey
wrapped_row new = record { project = new.project; number = new.number; wrapped = new.wrapped }

-- the wrapped keys with that of the new key, if there is one
abbrev pub rows_with : Option NewKey → List WrappedKey → List WrappedKey
rows_with None rows = rows
rows_with (Some new) rows = insert_key (wrapped_row new) rows

-- The token, of this moment, this vector and these bytes, is under the project's key of the greatest number.
pub record IsSealedUnder (masters : List (List ℕ)) (rows : List WrappedKey) (project : List ℕ) (moment : ℕ) (plain iv : List ℕ) (sealed : Sealed) : Type 0 where
  pub row : WrappedKey
  pub latest : IsLatest project rows row
  pub key : List ℕ
  pub unwraps : IsUnwrapped masters row.wrapped key
  pub new : sealed.new ≡ None
  pub number : sealed.number ≡ row.number
  pub token : IsToken key moment iv plain sealed.token

-- The token is under the drawn key, which is the project's first, and is wrapped under the first master key, at this moment
-- and with the vector that was drawn for that.
pub record IsSealedFirst (masters : List (List ℕ)) (project : List ℕ) (moment : ℕ) (plain : List ℕ) (drawn : KeyDraw) (iv : List ℕ) (sealed : Sealed) : Type 0 where
  pub wrapped : List ℕ
  pub is_wrapped : IsWrapped masters moment drawn.iv drawn.key wrapped
  pub new : sealed.new ≡ Some (record { project = project; number = 1; key = drawn.key; wrapped = wrapped })
  pub number : sealed.number ≡ 1
  pub token : IsToken drawn.key moment iv plain sealed.token

abbrev pub IsSealedWith : (masters : List (List ℕ)) → List WrappedKey → (project : List ℕ) → (moment : ℕ) → (plain : List ℕ) → Option KeyDraw → (iv : List ℕ) → Sealed → Type 0
IsSealedWith masters rows project moment plain None iv sealed = IsSealedUnder masters rows project moment plain iv sealed
IsSealedWith masters rows project moment plain (Some key) iv sealed = IsSealedFirst masters project moment plain key iv sealed

-- it is sealed with what was drawn
abbrev pub IsSealedFor : (masters : List (List ℕ)) → List WrappedKey → (project : List ℕ) → (moment : ℕ) → (plain : List ℕ) → Drawn → Sealed → Type 0
IsSealedFor masters rows project moment plain drawn sealed = IsSealedWith masters rows project moment plain drawn.key drawn.iv sealed

-- the project's new key, if it gets one, opens to what was drawn, and can be put
pub record IsNewKey (masters : List (List ℕ)) (kept : Kept) (project : List ℕ) (new : NewKey) : Type 0 where
  pub project_is : new.project ≡ project
  pub opens : IsUnwrapped masters new.wrapped new.key
  pub applies_to : applies Records (KeyAdded (wrapped_row new)) kept ≡ true

abbrev pub Adds : (masters : List (List ℕ)) → Kept → (project : List ℕ) → Option NewKey → Type 0
Adds masters kept project None = Unit {0}
Adds masters kept project (Some new) = IsNewKey masters kept project new

-- ---- the changes of a step

abbrev pub key_changes : Option NewKey → List Change
key_changes None = []
key_changes (Some new) = KeyAdded (wrapped_row new) ∷ []

-- a new secret with its payload: the project's new key, if it gets one, comes first
abbrev pub post_changes : Sealed → Put → Media → List Change
post_changes sealed put media = key_changes sealed.new ++ posted_changes put put.updated sealed.number media sealed.token

-- the payload of a secret that is there: the project's new key, if it gets one, comes first
abbrev pub put_changes : Sealed → (secret updated : ℕ) → Media → List Change
put_changes sealed secret updated media =
    key_changes sealed.new ++ PayloadPut (record { secret = secret; updated = updated; media = media; number = sealed.number; token = sealed.token }) ∷ []
