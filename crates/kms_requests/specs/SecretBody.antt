-- The body of a new secret (Barbican API v1, POST /v1/secrets).
use Rattle.std.specs.Prelude.{ℕ, List, Option, Ok}
use Rattle.serde_json.specs.Data.{Data}
use Rattle.kms_world.specs.declared.body.SecretBody.{SecretBody}
use Rattle.kms_world.specs.declared.refusal.Field.TheVariants as field
use Rattle.kms_requests.specs.Body.{Said, body_object}
use Rattle.kms_requests.specs.Fields.{◌>>=◌, optional_text, optional_number}

-- the fields' types are tested in this order
unfoldable pub secret_of : Data → Said SecretBody
secret_of d = do
  name ← optional_text field.Name d
  algorithm ← optional_text field.Algorithm d
  bit_length ← optional_number field.BitLength d
  mode ← optional_text field.Mode d
  secret_type ← optional_text field.SecretType d
  expiration ← optional_text field.Expiration d
  payload ← optional_text field.Payload d
  payload_content_type ← optional_text field.PayloadContentType d
  payload_content_encoding ← optional_text field.PayloadContentEncoding d
  Ok (record {
    name = name;
    algorithm = algorithm;
    bit_length = bit_length;
    mode = mode;
    secret_type = secret_type;
    expiration = expiration;
    payload = payload;
    payload_content_type = payload_content_type;
    payload_content_encoding = payload_content_encoding;
  })

abbrev pub secret_body : (content_type : Option (List ℕ)) → List ℕ → Said SecretBody
secret_body content_type bytes = do
  d ← body_object content_type bytes
  secret_of d
