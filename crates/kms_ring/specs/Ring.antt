-- Wrapped project keys under a list of master keys.
use Rattle.std.specs.Prelude.{◌≡◌, ℕ, List, [], ◌∷◌, ◌++◌}
use Rattle.std.specs.List.{AllByRecursion}
use Rattle.kms_fernet.specs.Key.{base64url}
use Rattle.kms_fernet.specs.Token.{IsToken}
use Rattle.kms_fernet.specs.Wrapped.{Unwraps, IsNotWrapped}

-- the first of the master keys under which the wrapped key opens has this project key
pub record IsUnwrapped (masters : List (List ℕ)) (wrapped key : List ℕ) : Type 0 where
  pub before : List (List ℕ)
  pub master : List ℕ
  pub after : List (List ℕ)
  pub among : masters ≡ before ++ master ∷ after
  pub not_before : AllByRecursion (λ other. IsNotWrapped other wrapped) before
  pub opens : Unwraps master wrapped key

-- it opens under none of them
abbrev pub IsUnderNone : (masters : List (List ℕ)) → (wrapped : List ℕ) → Type 0
IsUnderNone masters wrapped = AllByRecursion (λ master. IsNotWrapped master wrapped) masters

-- it opens under the first one
abbrev pub IsUnderFirst : (masters : List (List ℕ)) → (wrapped : List ℕ) → Type 0
IsUnderFirst [] wrapped = ⊥
IsUnderFirst (first ∷ others) wrapped = (key : List ℕ) × Unwraps first wrapped key

-- it is the project key, wrapped at this moment under the first master key
abbrev pub IsWrapped : (masters : List (List ℕ)) → (moment : ℕ) → (iv key wrapped : List ℕ) → Type 0
IsWrapped [] moment iv key wrapped = ⊥
IsWrapped (first ∷ others) moment iv key wrapped = IsToken first moment iv (base64url key) wrapped
