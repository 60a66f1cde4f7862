-- What is shown of a secret.
use Rattle.std.specs.Prelude.{[], option_map}
use Rattle.kms_world.specs.declared.payload.Payload.{Payload}
use Rattle.kms_world.specs.declared.secret.SecretRow.{SecretRow}

abbrev pub without_bytes : Payload → Payload
without_bytes p = record { media = p.media; bytes = [] }

-- the attributes alone: of the payload its media type, and no metadata
abbrev pub attributes_of : SecretRow → SecretRow
attributes_of row = record row { payload = option_map without_bytes row.payload; metadata = [] }
