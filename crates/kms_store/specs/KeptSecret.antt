-- A secret without the number of its key.
use Rattle.std.specs.Prelude.{drop, option_map}
use Rattle.kms_world.specs.declared.payload.Payload.{Payload}
use Rattle.kms_world.specs.declared.secret.SecretRow.{SecretRow}

abbrev pub token_alone : Payload → Payload
token_alone payload = record { media = payload.media; bytes = drop 1 payload.bytes }

-- the row with the token alone in its payload
abbrev pub without_number : SecretRow → SecretRow
without_number row = record row { payload = option_map token_alone row.payload }
