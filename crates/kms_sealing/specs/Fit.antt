-- What arrays of the program are.
use Rattle.std.specs.Prelude.{ℕ, List}
use Rattle.std.specs.List.{AllByRecursion}
use Rattle.kms_aes.specs.Cipher.{IsBytes, IsBlock}

-- master keys, a key, and the vectors of its wrapped form and of a token
pub record FitFirst (masters : List (List ℕ)) (key key_iv iv : List ℕ) : Type 0 where
  pub masters_fit : AllByRecursion (IsBytes 32) masters
  pub key_fits : IsBytes 32 key
  pub key_iv_fits : IsBlock key_iv
  pub iv_fits : IsBlock iv
