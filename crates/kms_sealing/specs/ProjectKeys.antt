-- What contracts see of project keys.
use Rattle.std.specs.Prelude.{ℕ, List}
use Rattle.std.specs.List.{AllZip}
use Rattle.kms_record.specs.declared.key.WrappedKey.{WrappedKey}
use Rattle.kms_ring.specs.Ring.{IsUnwrapped}

-- the master keys, and project keys; and for how many more there is memory
pub record Unwrapped : Type 0 where
  pub masters : List (List ℕ)
  pub keys : List (List ℕ)
  pub spare : ℕ

-- each project key is what the wrapped key in its place opens to, under the first master key that opens it
abbrev pub AreOf : Unwrapped → List WrappedKey → Type 0
AreOf unwrapped rows = AllZip (λ (row : WrappedKey) (key : List ℕ). IsUnwrapped unwrapped.masters row.wrapped key) rows unwrapped.keys
