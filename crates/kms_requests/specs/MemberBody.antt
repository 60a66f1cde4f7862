-- The body of a member of a container (Barbican API v1, POST and DELETE /v1/containers/{uuid}/secrets).
use Rattle.std.specs.Prelude.{ℕ, List, Option, Ok}
use Rattle.serde_json.specs.Data.{Data}
use Rattle.kms_world.specs.declared.body.MemberBody.{MemberBody}
use Rattle.kms_world.specs.declared.refusal.Field.TheVariants as field
use Rattle.kms_requests.specs.Body.{Said, body_object}
use Rattle.kms_requests.specs.Fields.{◌>>=◌, optional_text}

-- the fields' types are tested in this order
unfoldable pub member_of : Data → Said MemberBody
member_of d = do
  name ← optional_text field.Name d
  secret_ref ← optional_text field.SecretRef d
  Ok (record { name = name; secret_ref = secret_ref })

abbrev pub member_body : (content_type : Option (List ℕ)) → List ℕ → Said MemberBody
member_body content_type bytes = do
  d ← body_object content_type bytes
  member_of d
