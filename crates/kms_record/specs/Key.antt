-- The changes of wrapped keys.
use Rattle.std.specs.Prelude.{◌≡◌, ℕ, ◌<◌, ◌≤◌, ◌^◌, List, ◌++◌, length, true}
use Rattle.kms_world.specs.Name.{is_name}
use Rattle.kms_record.specs.declared.key.WrappedKey.{WrappedKey}
use Rattle.kms_record.specs.declared.key.KeyDropped.{KeyDropped}
use Rattle.kms_record.specs.Fields.{u32_bytes, text_bytes}

-- its fields in their order
unfoldable pub wrapped_key_bytes : WrappedKey → List ℕ
wrapped_key_bytes put = text_bytes put.project ++ u32_bytes put.number ++ put.wrapped

-- its numbers and lengths are in their ranges
pub record IsWrappedKeyInRange (put : WrappedKey) : Type 0 where
  pub project : length put.project ≤ 64
  pub wrapped : length put.wrapped ≡ 140

-- what its fields' types say, in every value of the program
pub record IsWrappedKeyTyped (put : WrappedKey) : Type 0 where
  pub project : is_name put.project ≡ true
  pub number : put.number < 2 ^ 32

-- its fields in their order
unfoldable pub key_dropped_bytes : KeyDropped → List ℕ
key_dropped_bytes put = text_bytes put.project ++ u32_bytes put.number

-- its numbers and lengths are in their ranges
pub record IsKeyDroppedInRange (put : KeyDropped) : Type 0 where
  pub project : length put.project ≤ 64

-- what its fields' types say, in every value of the program
pub record IsKeyDroppedTyped (put : KeyDropped) : Type 0 where
  pub project : is_name put.project ≡ true
  pub number : put.number < 2 ^ 32
