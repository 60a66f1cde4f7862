-- The body of one pair of a secret's metadata (Barbican API v1, POST /v1/secrets/{uuid}/metadata).
use Rattle.std.specs.Prelude.{ℕ, List, Option, Ok}
use Rattle.serde_json.specs.Data.{Data}
use Rattle.kms_world.specs.declared.body.PairBody.{PairBody}
use Rattle.kms_world.specs.declared.refusal.Field.TheVariants as field
use Rattle.kms_requests.specs.Body.{Said, body_object}
use Rattle.kms_requests.specs.Fields.{◌>>=◌, optional_text}

-- the fields' types are tested in this order
unfoldable pub pair_of : Data → Said PairBody
pair_of d = do
  key ← optional_text field.Key d
  value ← optional_text field.Value d
  Ok (record { key = key; value = value })

abbrev pub pair_body : (content_type : Option (List ℕ)) → List ℕ → Said PairBody
pair_body content_type bytes = do
  d ← body_object content_type bytes
  pair_of d
