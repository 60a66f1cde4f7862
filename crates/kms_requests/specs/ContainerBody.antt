-- The body of a new container (Barbican API v1, POST /v1/containers).
use Rattle.std.specs.Prelude.{ℕ, List, [], ◌∷◌, Option, Some, None, Ok, Err}
use Rattle.serde_json.specs.Data.{Data, null, boolean, number, string, array, object, Items, no_items, item}
use Rattle.serde_json.specs.Find.{get}
use Rattle.kms_world.specs.declared.body.ContainerBody.{ContainerBody}
use Rattle.kms_world.specs.declared.body.MemberBody.{MemberBody}
use Rattle.kms_world.specs.declared.refusal.Field.{Field}
use Rattle.kms_world.specs.declared.refusal.Field.TheVariants as field
use Rattle.kms_world.specs.declared.refusal.Refusal.TheVariants.{BadBody}
use Rattle.kms_world.specs.Field.{word_of}
use Rattle.kms_requests.specs.Body.{Said, body_object}
use Rattle.kms_requests.specs.Fields.{◌>>=◌, said_map, text_in, optional_text, optional_list}

-- one of a list, which is refused as the list
abbrev pub listed_fields : Field → Data → Said MemberBody
listed_fields f d = do
  name ← text_in f (get (word_of field.Name) d)
  secret_ref ← text_in f (get (word_of field.SecretRef) d)
  Ok (record { name = name; secret_ref = secret_ref })

unfoldable pub listed_of : Field → Data → Said MemberBody
listed_of f null = Err (BadBody f)
listed_of f (boolean b) = Err (BadBody f)
listed_of f (number n) = Err (BadBody f)
listed_of f (string s) = Err (BadBody f)
listed_of f (array ds) = Err (BadBody f)
listed_of f (object ms) = listed_fields f (object ms)

abbrev pub members_of : Field → Items → Said (List MemberBody)
members_of f no_items = Ok []
members_of f (item d ds) = do
  first ← listed_of f d
  said_map (λ others. first ∷ others) (members_of f ds)

abbrev pub optional_members : Field → Option Items → Said (Option (List MemberBody))
optional_members f None = Ok None
optional_members f (Some ds) = said_map Some (members_of f ds)

-- the fields' types are tested in this order
unfoldable pub container_of : Data → Said ContainerBody
container_of d = do
  name ← optional_text field.Name d
  kind ← optional_text field.TypeName d
  items ← optional_list field.SecretRefs d
  secret_refs ← optional_members field.SecretRefs items
  Ok (record { name = name; kind = kind; secret_refs = secret_refs })

abbrev pub container_body : (content_type : Option (List ℕ)) → List ℕ → Said ContainerBody
container_body content_type bytes = do
  d ← body_object content_type bytes
  container_of d
