-- Payloads: what their media type, their encoding and their bytes are to be.
use Rattle.std.specs.Prelude.{ℕ, ◌==◌, Bool, true, false, List, length, codes, nat_le, Option, Some, None, Result, Ok, Err, if◌then◌else◌, is_some}
use Rattle.std.specs.Option.{option_and_then}
use Rattle.std.specs.Result.{result_ok}
use Rattle.std.specs.Str.{bytes_eq, is_utf8}
use Rattle.base64.specs.Engines.{standard}
use Rattle.base64.specs.GeneralPurpose.{decode_of}
use Rattle.kms_world.specs.declared.operation.PutShape.{PutShape}
use Rattle.kms_world.specs.declared.payload.Media.{Media}
use Rattle.kms_world.specs.declared.payload.Media.TheVariants.{TextPlain, OctetStream}
use Rattle.kms_world.specs.declared.payload.Payload.{Payload}
use Rattle.kms_world.specs.declared.refusal.Field.TheVariants.{Payload as PayloadField}
use Rattle.kms_world.specs.declared.refusal.Refusal.{Refusal}
use Rattle.kms_world.specs.declared.refusal.Refusal.TheVariants.{BadBody, WrongType, PayloadTooLong}
use Rattle.kms_secret.specs.Media.{media_of}
use Rattle.kms_secret.specs.Rules.{◌>>=◌, only_if, there}

-- the bytes that a text encodes by the standard alphabet, with padding and zero trailing bits (RFC 4648 section 4)
abbrev pub decoded : List ℕ → Option (List ℕ)
decoded text = result_ok (decode_of standard text)

-- the word for that encoding
abbrev pub is_base64 : List ℕ → Bool
is_base64 word = bytes_eq word (codes "base64")

-- a payload has 1 to 20,000 bytes
abbrev pub payload_of : Media → Option (List ℕ) → Result Payload Refusal
payload_of media None = Err (BadBody PayloadField)
payload_of media (Some bytes) =
    if length bytes == 0 then Err (BadBody PayloadField) else
    if nat_le (length bytes) 20000 then Ok (record { media = media; bytes = bytes }) else Err PayloadTooLong

-- bytes may be encoded, a text never is
abbrev pub takes_encoding : Media → Option (List ℕ) → Bool
takes_encoding media None = true
takes_encoding TextPlain (Some word) = false
takes_encoding OctetStream (Some word) = is_base64 word

-- the bytes that are put: of a text its UTF-8
abbrev pub put_bytes : Media → (is_encoded : Bool) → List ℕ → Option (List ℕ)
put_bytes TextPlain is_encoded body = if is_utf8 body then Some body else None
put_bytes OctetStream false body = Some body
put_bytes OctetStream true body = decoded body

-- the payload that a body of bytes is, by the types that the request names; or the refusal of the first rule that it breaks
abbrev pub checked_payload : PutShape → (body : List ℕ) → Result Payload Refusal
checked_payload shape body = do
  media ← there (option_and_then media_of shape.content_type) WrongType
  encoded ← only_if (takes_encoding media shape.content_encoding) WrongType
  payload_of media (put_bytes media (is_some shape.content_encoding) body)
