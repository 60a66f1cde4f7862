-- The body of an access list (Barbican API v1, PUT and PATCH /v1/secrets/{uuid}/acl).
use Rattle.std.specs.Prelude.{ℕ, List, Option, Some, None, Ok}
use Rattle.serde_json.specs.Data.{Data, Items}
use Rattle.kms_world.specs.declared.body.AclBody.{AclBody}
use Rattle.kms_world.specs.declared.body.ReadBody.{ReadBody}
use Rattle.kms_world.specs.declared.refusal.Field.TheVariants as field
use Rattle.kms_requests.specs.Body.{Said, body_object}
use Rattle.kms_requests.specs.Fields.{◌>>=◌, said_map, texts_of, optional_bool, optional_list, optional_object}

abbrev pub optional_users : Option Items → Said (Option (List (List ℕ)))
optional_users None = Ok None
optional_users (Some ds) = said_map Some (texts_of field.Users ds)

unfoldable pub read_of : Data → Said ReadBody
read_of d = do
  items ← optional_list field.Users d
  users ← optional_users items
  project_access ← optional_bool field.ProjectAccess d
  Ok (record { users = users; project_access = project_access })

abbrev pub optional_read : Option Data → Said (Option ReadBody)
optional_read None = Ok None
optional_read (Some d) = said_map Some (read_of d)

-- the fields' types are tested in this order
unfoldable pub acl_of : Data → Said AclBody
acl_of d = do
  given ← optional_object field.Read d
  read ← optional_read given
  Ok (record { read = read })

abbrev pub acl_body : (content_type : Option (List ℕ)) → List ℕ → Said AclBody
acl_body content_type bytes = do
  d ← body_object content_type bytes
  acl_of d
