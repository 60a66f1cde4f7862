-- Wrapped keys: tokens of keys' texts.
use Rattle.std.specs.Prelude.{ℕ, List}
use Rattle.kms_aes.specs.Cipher.{IsBytes}
use Rattle.kms_fernet.specs.Key.{base64url}
use Rattle.kms_fernet.specs.Token.{Opens}

-- the wrapped key opens to the text of this key
pub record Unwraps (master wrapped key : List ℕ) : Type 0 where
  pub fits : IsBytes 32 key
  pub opens : Opens master wrapped (base64url key)

-- it opens to no key's text
abbrev pub IsNotWrapped : List ℕ → List ℕ → Type 0
IsNotWrapped master wrapped = (key : List ℕ) → ¬ Unwraps master wrapped key
