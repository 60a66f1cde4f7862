-- The body of a consumer (Barbican API v1, POST and DELETE /v1/containers/{uuid}/consumers).
use Rattle.std.specs.Prelude.{ℕ, List, Option, Ok}
use Rattle.serde_json.specs.Data.{Data}
use Rattle.kms_world.specs.declared.body.ConsumerBody.{ConsumerBody}
use Rattle.kms_world.specs.declared.refusal.Field.TheVariants as field
use Rattle.kms_requests.specs.Body.{Said, body_object}
use Rattle.kms_requests.specs.Fields.{◌>>=◌, optional_text}

-- the fields' types are tested in this order
unfoldable pub consumer_of : Data → Said ConsumerBody
consumer_of d = do
  name ← optional_text field.Name d
  url ← optional_text field.Url d
  Ok (record { name = name; url = url })

abbrev pub consumer_body : (content_type : Option (List ℕ)) → List ℕ → Said ConsumerBody
consumer_body content_type bytes = do
  d ← body_object content_type bytes
  consumer_of d
