-- Bodies of new secrets: the secret, or the refusal of the first rule that the body breaks.
use Rattle.std.specs.Prelude.{ℕ, ◌==◌, Bool, true, false, ◌||◌, not, List, length, Option, Some, None, Result, Ok, Err, if◌then◌else◌, is_some}
use Rattle.std.specs.Option.{option_and_then}
use Rattle.kms_world.specs.SecretKind.{kind_of}
use Rattle.kms_world.specs.declared.body.SecretBody.{SecretBody}
use Rattle.kms_world.specs.declared.payload.Media.{Media}
use Rattle.kms_world.specs.declared.payload.Media.TheVariants.{TextPlain, OctetStream}
use Rattle.kms_world.specs.declared.payload.Payload.{Payload}
use Rattle.kms_world.specs.declared.refusal.Field.TheVariants.{Name, Algorithm, Mode, SecretType, Payload as PayloadField, PayloadContentType, PayloadContentEncoding}
use Rattle.kms_world.specs.declared.refusal.Refusal.{Refusal}
use Rattle.kms_world.specs.declared.refusal.Refusal.TheVariants.{BadBody}
use Rattle.kms_world.specs.declared.secret.SecretKind.{SecretKind}
use Rattle.kms_world.specs.declared.secret.SecretKind.TheVariants.{Opaque}
use Rattle.kms_secret.specs.declared.secret.NewSecret.{NewSecret}
use Rattle.kms_secret.specs.Fields.{optional_text, optional_bit_length, expiration_by}
use Rattle.kms_secret.specs.Media.{media_of}
use Rattle.kms_secret.specs.Payload.{decoded, is_base64, payload_of}
use Rattle.kms_secret.specs.Rules.{◌>>=◌, only_if, there}

-- a secret is opaque where the body says nothing else
abbrev pub kind_by : Option (List ℕ) → Result SecretKind Refusal
kind_by None = Ok Opaque
kind_by (Some word) = there (kind_of word) (BadBody SecretType)

-- in JSON bytes are in base64, and a text is as it is
abbrev pub has_its_encoding : Media → Option (List ℕ) → Bool
has_its_encoding TextPlain None = true
has_its_encoding TextPlain (Some word) = false
has_its_encoding OctetStream None = false
has_its_encoding OctetStream (Some word) = is_base64 word

abbrev pub text_bytes : Media → List ℕ → Option (List ℕ)
text_bytes TextPlain text = Some text
text_bytes OctetStream text = decoded text

-- the payload of a text that is there
abbrev pub text_payload : List ℕ → (content_type encoding : Option (List ℕ)) → Result Payload Refusal
text_payload text content_type encoding = do
  given ← only_if (not (length text == 0)) (BadBody PayloadField)
  media ← there (option_and_then media_of content_type) (BadBody PayloadContentType)
  encoded ← only_if (has_its_encoding media encoding) (BadBody PayloadContentEncoding)
  payload_of media (text_bytes media text)

-- without a payload there are neither a media type nor an encoding
abbrev pub payload_by : Option (List ℕ) → (content_type encoding : Option (List ℕ)) → Result (Option Payload) Refusal
payload_by None content_type encoding =
    if is_some content_type || is_some encoding then Err (BadBody PayloadField) else Ok None
payload_by (Some text) content_type encoding = do
  payload ← text_payload text content_type encoding
  Ok (Some payload)

abbrev pub checked_secret : SecretBody → (moment : ℕ) → Result NewSecret Refusal
checked_secret body moment = do
  name ← optional_text Name body.name
  algorithm ← optional_text Algorithm body.algorithm
  bit_length ← optional_bit_length body.bit_length
  mode ← optional_text Mode body.mode
  kind ← kind_by body.secret_type
  expiration ← expiration_by body.expiration moment
  payload ← payload_by body.payload body.payload_content_type body.payload_content_encoding
  Ok (record { name = name; algorithm = algorithm; bit_length = bit_length; mode = mode; kind = kind; expiration = expiration; payload = payload })
