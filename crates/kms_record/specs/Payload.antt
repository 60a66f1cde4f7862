-- The changes of payloads.
use Rattle.std.specs.Prelude.{ℕ, ◌<◌, ◌^◌, List, ◌++◌}
use Rattle.kms_world.specs.Times.{end_of_times}
use Rattle.kms_record.specs.declared.payload.TokenReplaced.{TokenReplaced}
use Rattle.kms_record.specs.declared.payload.PayloadPut.{PayloadPut}
use Rattle.kms_record.specs.Fields.{u8_bytes, u32_bytes, u64_bytes, token_bytes, media_number, IsToken}

-- its fields in their order
unfoldable pub token_replaced_bytes : TokenReplaced → List ℕ
token_replaced_bytes put = u64_bytes put.secret ++ u32_bytes put.number ++ token_bytes put.token

-- its numbers and lengths are in their ranges
pub record IsTokenReplacedInRange (put : TokenReplaced) : Type 0 where
  pub secret : put.secret < 2 ^ 62
  pub token : IsToken put.token

-- what its fields' types say, in every value of the program
pub record IsTokenReplacedTyped (put : TokenReplaced) : Type 0 where
  pub number : put.number < 2 ^ 32

-- its fields in their order
unfoldable pub payload_put_bytes : PayloadPut → List ℕ
payload_put_bytes put =
    u64_bytes put.secret ++ u64_bytes put.updated ++ u8_bytes (media_number put.media) ++ u32_bytes put.number
    ++ token_bytes put.token

-- its numbers and lengths are in their ranges
pub record IsPayloadPutInRange (put : PayloadPut) : Type 0 where
  pub secret : put.secret < 2 ^ 62
  pub updated : put.updated < end_of_times
  pub token : IsToken put.token

-- what its fields' types say, in every value of the program
pub record IsPayloadPutTyped (put : PayloadPut) : Type 0 where
  pub number : put.number < 2 ^ 32
