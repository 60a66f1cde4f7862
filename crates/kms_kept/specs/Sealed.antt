-- The key of each token that is kept is there.
use Rattle.std.specs.Prelude.{◌≡◌, true, List, [], ◌∷◌, IfSome, is_some, ℕ}
use Rattle.std.specs.List.{AllByRecursion}
use Rattle.kms_world.specs.declared.secret.SecretRow.{SecretRow}
use Rattle.kms_record.specs.declared.key.WrappedKey.{WrappedKey}
use Rattle.kms_kept.specs.Kept.{Kept, key_of}

-- the bytes are the number of a key of the project and, after that, a token
abbrev pub HasKey : List WrappedKey → (project sealed : List ℕ) → Type 0
HasKey keys project [] = ⊥
HasKey keys project (number ∷ token) = is_some (key_of project number keys) ≡ true

abbrev pub IsUnderKey : List WrappedKey → SecretRow → Type 0
IsUnderKey keys row = IfSome row.payload (λ payload. HasKey keys row.project payload.bytes)

abbrev pub AreUnderKeys : Kept → Type 0
AreUnderKeys kept = AllByRecursion (IsUnderKey kept.keys) kept.state.secrets
