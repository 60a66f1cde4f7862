-- The body of a new order (Barbican API v1, POST /v1/orders).
use Rattle.std.specs.Prelude.{ℕ, List, Option, Some, None, Ok}
use Rattle.serde_json.specs.Data.{Data}
use Rattle.kms_world.specs.declared.body.MetaBody.{MetaBody}
use Rattle.kms_world.specs.declared.body.OrderBody.{OrderBody}
use Rattle.kms_world.specs.declared.refusal.Field.TheVariants as field
use Rattle.kms_requests.specs.Body.{Said, body_object}
use Rattle.kms_requests.specs.Fields.{◌>>=◌, said_map, optional_text, optional_number, optional_object}

unfoldable pub meta_of : Data → Said MetaBody
meta_of d = do
  algorithm ← optional_text field.Algorithm d
  bit_length ← optional_number field.BitLength d
  mode ← optional_text field.Mode d
  name ← optional_text field.Name d
  payload_content_type ← optional_text field.PayloadContentType d
  expiration ← optional_text field.Expiration d
  Ok (record {
    algorithm = algorithm;
    bit_length = bit_length;
    mode = mode;
    name = name;
    payload_content_type = payload_content_type;
    expiration = expiration;
  })

abbrev pub optional_meta : Option Data → Said (Option MetaBody)
optional_meta None = Ok None
optional_meta (Some d) = said_map Some (meta_of d)

-- the fields' types are tested in this order
unfoldable pub order_of : Data → Said OrderBody
order_of d = do
  kind ← optional_text field.TypeName d
  given ← optional_object field.Meta d
  meta ← optional_meta given
  Ok (record { kind = kind; meta = meta })

abbrev pub order_body : (content_type : Option (List ℕ)) → List ℕ → Said OrderBody
order_body content_type bytes = do
  d ← body_object content_type bytes
  order_of d
