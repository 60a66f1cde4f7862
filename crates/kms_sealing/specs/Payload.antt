-- The bytes of one token.
use Rattle.std.specs.Prelude.{ℕ, ◌≤◌, List, length}
use Rattle.kms_fernet.specs.Token.{Opens}

-- the token opens to these bytes, which are 1 to 20,000
pub record OpensFitting (key token bytes : List ℕ) : Type 0 where
  pub opens : Opens key token bytes
  pub some : 1 ≤ length bytes
  pub few : length bytes ≤ 20000
