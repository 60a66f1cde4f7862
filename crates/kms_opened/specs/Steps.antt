-- What changes do to the opened state.
use Rattle.std.specs.Prelude.{◌≡◌, ℕ, true, List, [], ◌∷◌, ◌++◌, Option, Some, None, option_to_list}
use Rattle.kms_ring.specs.Ring.{IsUnwrapped}
use Rattle.kms_world.specs.Effect.{Effect}
use Rattle.kms_world.specs.Effect as effects
use Rattle.kms_world.specs.Id.{id_at}
use Rattle.kms_world.specs.LookUp.{secret_of}
use Rattle.kms_world.specs.State.{State}
use Rattle.kms_world.specs.declared.payload.Media.{Media}
use Rattle.kms_world.specs.declared.payload.Payload.{Payload}
use Rattle.kms_world.specs.declared.secret.SecretRow.{SecretRow}
use Rattle.kms_record.specs.declared.change.Change.{Change}
use Rattle.kms_record.specs.declared.change.Change.TheVariants.{KeyAdded, KeyRewrapped, TokenReplaced, SecretPut, PayloadPut}
use Rattle.kms_record.specs.declared.key.WrappedKey.{WrappedKey}
use Rattle.kms_record.specs.declared.secret_put.SecretPut.{SecretPut as Put}
use Rattle.kms_record.specs.ChangeEffect.{effect_of}
use Rattle.kms_kept.specs.Kept.{Kept, Part, Records, key_of, applies, changed, after_changes}
use Rattle.kms_kept.specs.Rising.{IsRising}
use Rattle.kms_opened.specs.Opened.{KeyOpens, OpensUnder, OpensSealed, Opened}

-- What the change does to the opened state: a payload is put with the bytes to which its token opens under the key of its
-- number in its secret's project; a key that comes opens; one that is wrapped anew opens to the same; a token in the
-- place of another opens to the same bytes. Every other change does to it what it does to the kept one.
abbrev pub OpensTo : (masters : List (List ℕ)) → Kept → Change → Option Effect → Type 0
OpensTo masters kept (KeyAdded key) effect = KeyOpens masters key × (effect ≡ None)
OpensTo masters kept (KeyRewrapped key) effect =
    KeyOpens masters key
    × ((row : WrappedKey) (plain : List ℕ) → key_of key.project key.number kept.keys ≡ Some row → IsUnwrapped masters row.wrapped plain → IsUnwrapped masters key.wrapped plain)
    × (effect ≡ None)
OpensTo masters kept (TokenReplaced put) effect =
    (row : SecretRow) × (secret_of (id_at kept.state.tag put.secret) kept.state.secrets ≡ Some row)
    × ((payload : Payload) (bytes : List ℕ) → row.payload ≡ Some payload
    → OpensSealed masters kept.keys row.project payload.bytes bytes → OpensUnder masters kept.keys row.project put.number put.token bytes)
    × (effect ≡ None)
OpensTo masters kept (PayloadPut put) effect =
    (row : SecretRow) × (secret_of (id_at kept.state.tag put.secret) kept.state.secrets ≡ Some row)
    × (bytes : List ℕ) × OpensUnder masters kept.keys row.project put.number put.token bytes
    × (effect ≡ Some (effects.PayloadPut (id_at kept.state.tag put.secret) put.updated (record { media = put.media; bytes = bytes })))
OpensTo masters kept change effect = effect ≡ effect_of kept.state.tag change

-- each of the changes applies after those before it, and together they have these effects on the opened state
abbrev pub HaveEffects : (masters : List (List ℕ)) → Part → Kept → List Change → List Effect → Type 0
HaveEffects masters part kept [] effects = effects ≡ []
HaveEffects masters part kept (change ∷ changes) effects =
    (first : Option Effect) × (rest : List Effect) × (applies part change kept ≡ true) × OpensTo masters kept change first
    × HaveEffects masters part (changed change kept) changes rest × (effects ≡ option_to_list first ++ rest)

-- This is kept after the changes, and it opens to this state.
pub record LeadTo (masters : List (List ℕ)) (part : Part) (changes : List Change) (kept : Kept) (state : State) : Type 0 where
  pub after : Kept
  pub applied : after_changes part changes kept ≡ Some after
  pub opened : Opened masters after state
  pub rising : IsRising after.state

-- a step of a record that has these effects
pub record HasStep (masters : List (List ℕ)) (kept : Kept) (effects : List Effect) : Type 0 where
  pub changes : List Change
  pub have : HaveEffects masters Records kept changes effects

-- the changes that put a new secret, and then its payload as a token under the project's key of this number
abbrev pub posted_changes : Put → (updated number : ℕ) → Media → (token : List ℕ) → List Change
posted_changes put updated number media token =
    SecretPut put ∷ PayloadPut (record { secret = put.id; updated = updated; media = media; number = number; token = token }) ∷ []
