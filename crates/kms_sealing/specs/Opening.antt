-- Opening all that is kept under master keys: to which it opens, or what is the first that doesn't.
use Rattle.std.specs.Prelude.{◌≡◌, ℕ, ◌∷◌, ◌++◌, List, Option}
use Rattle.std.specs.List.{AllByRecursion}
use Rattle.kms_ring.specs.Ring.{IsUnderNone}
use Rattle.kms_world.specs.State.{State}
use Rattle.kms_world.specs.declared.id.Id.{Id}
use Rattle.kms_world.specs.declared.payload.Payload.{Payload}
use Rattle.kms_world.specs.declared.secret.SecretRow.{SecretRow}
use Rattle.kms_record.specs.declared.key.WrappedKey.{WrappedKey}
use Rattle.kms_kept.specs.Kept.{Kept}
use Rattle.kms_opened.specs.Opened.{KeyOpens, OpensPayload, Opened}
use Rattle.kms_sealing.specs.declared.fault.OpeningFault.{OpeningFault}
use Rattle.kms_sealing.specs.declared.fault.OpeningFault.TheVariants.{UnknownMaster, Damaged, NoMemory}

-- it opens to a state
abbrev pub IsOpen : (masters : List (List ℕ)) → Kept → Type 0
IsOpen masters kept = (state : State) × Opened masters kept state

-- The first wrapped key, by project and number, that no master key opens is one of this project.
pub record IsUnknown (masters : List (List ℕ)) (rows : List WrappedKey) (project : List ℕ) : Type 0 where
  pub before : List WrappedKey
  pub row : WrappedKey
  pub after : List WrappedKey
  pub rows_are : rows ≡ before ++ row ∷ after
  pub opened : AllByRecursion (KeyOpens masters) before
  pub closed : IsUnderNone masters row.wrapped
  pub named : project ≡ row.project

-- the payload, where there is one, opens
abbrev pub PayloadOpens : (masters : List (List ℕ)) → List WrappedKey → SecretRow → Type 0
PayloadOpens masters keys row = (plain : Option Payload) × OpensPayload masters keys row.project row.payload plain

-- The first secret, by creation, whose payload doesn't open has this id.
pub record IsClosed (masters : List (List ℕ)) (keys : List WrappedKey) (rows : List SecretRow) (id : Id) : Type 0 where
  pub before : List SecretRow
  pub row : SecretRow
  pub after : List SecretRow
  pub rows_are : rows ≡ before ++ row ∷ after
  pub opened : AllByRecursion (PayloadOpens masters keys) before
  pub closed : PayloadOpens masters keys row → ⊥
  pub named : id ≡ row.id

-- Every key opens, and the first secret whose payload doesn't has this id.
pub record IsDamaged (masters : List (List ℕ)) (kept : Kept) (id : Id) : Type 0 where
  pub keys : AllByRecursion (KeyOpens masters) kept.keys
  pub secret : IsClosed masters kept.keys kept.state.secrets id

abbrev pub IsRefusal : (masters : List (List ℕ)) → Kept → OpeningFault → Type 0
IsRefusal masters kept (UnknownMaster project) = IsUnknown masters kept.keys project
IsRefusal masters kept (Damaged id) = IsDamaged masters kept id
IsRefusal masters kept NoMemory = Unit {0}

-- The same of the keys alone, and of the payloads alone.
abbrev pub IsUnwrapRefusal : (masters : List (List ℕ)) → List WrappedKey → OpeningFault → Type 0
IsUnwrapRefusal masters rows (UnknownMaster project) = IsUnknown masters rows project
IsUnwrapRefusal masters rows (Damaged id) = ⊥
IsUnwrapRefusal masters rows NoMemory = Unit {0}

abbrev pub IsOpenRefusal : (masters : List (List ℕ)) → List WrappedKey → List SecretRow → OpeningFault → Type 0
IsOpenRefusal masters keys rows (UnknownMaster project) = ⊥
IsOpenRefusal masters keys rows (Damaged id) = IsClosed masters keys rows id
IsOpenRefusal masters keys rows NoMemory = Unit {0}
