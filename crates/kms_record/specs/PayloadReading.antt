-- How the changes of payloads are read.
use Rattle.std.specs.Prelude.{ℕ, List}
use Rattle.std.specs.Int.{w32}
use Rattle.kms_world.specs.declared.payload.Media.{Media}
use Rattle.kms_record.specs.declared.payload.TokenReplaced.{TokenReplaced}
use Rattle.kms_record.specs.declared.payload.PayloadPut.{PayloadPut}
use Rattle.kms_record.specs.Reading.{Read, id_at, time_at, media_at, token_at, number_at, both, made_of}

abbrev pub TokenReplacedFields : Type 0
TokenReplacedFields = ℕ × (ℕ × List ℕ)

abbrev pub token_replaced_with : TokenReplacedFields → TokenReplaced
token_replaced_with (secret, (number, token)) = record { secret = secret; number = number; token = token }

abbrev pub token_replaced_fields_at : Read TokenReplacedFields
token_replaced_fields_at = both id_at (both (number_at w32) token_at)

unfoldable pub token_replaced_at : Read TokenReplaced
token_replaced_at = made_of token_replaced_with token_replaced_fields_at

abbrev pub PayloadPutFields : Type 0
PayloadPutFields = ℕ × (ℕ × (Media × (ℕ × List ℕ)))

abbrev pub payload_put_with : PayloadPutFields → PayloadPut
payload_put_with (secret, (updated, (media, (number, token)))) = record { secret = secret; updated = updated; media = media; number = number; token = token }

abbrev pub payload_put_fields_at : Read PayloadPutFields
payload_put_fields_at = both id_at (both time_at (both media_at (both (number_at w32) token_at)))

unfoldable pub payload_put_at : Read PayloadPut
payload_put_at = made_of payload_put_with payload_put_fields_at
