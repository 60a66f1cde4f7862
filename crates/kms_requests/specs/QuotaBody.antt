-- The body of a project's quotas (Barbican API v1, PUT /v1/project-quotas/{uuid}).
use Rattle.std.specs.Prelude.{ℕ, List, Option, Some, None, Ok}
use Rattle.serde_json.specs.Data.{Data}
use Rattle.kms_world.specs.declared.body.QuotaBody.{QuotaBody}
use Rattle.kms_world.specs.declared.body.QuotaValues.{QuotaValues}
use Rattle.kms_world.specs.declared.refusal.Field.TheVariants as field
use Rattle.kms_requests.specs.Body.{Said, body_object}
use Rattle.kms_requests.specs.Fields.{◌>>=◌, said_map, optional_number, optional_object}

unfoldable pub values_of : Data → Said QuotaValues
values_of d = do
  secrets ← optional_number field.Secrets d
  orders ← optional_number field.Orders d
  containers ← optional_number field.Containers d
  consumers ← optional_number field.Consumers d
  Ok (record { secrets = secrets; orders = orders; containers = containers; consumers = consumers })

abbrev pub optional_values : Option Data → Said (Option QuotaValues)
optional_values None = Ok None
optional_values (Some d) = said_map Some (values_of d)

-- the fields' types are tested in this order
unfoldable pub quota_of : Data → Said QuotaBody
quota_of d = do
  given ← optional_object field.ProjectQuotas d
  project_quotas ← optional_values given
  Ok (record { project_quotas = project_quotas })

abbrev pub quota_body : (content_type : Option (List ℕ)) → List ℕ → Said QuotaBody
quota_body content_type bytes = do
  d ← body_object content_type bytes
  quota_of d
