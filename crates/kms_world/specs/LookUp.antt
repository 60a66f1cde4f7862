-- Rows by what names them.
use Rattle.std.specs.Prelude.{ℕ, List, Option, find}
use Rattle.std.specs.Str.{bytes_eq}
use Rattle.kms_world.specs.Id.{is_id}
use Rattle.kms_world.specs.declared.id.Id.{Id}
use Rattle.kms_world.specs.declared.secret.SecretRow.{SecretRow}
use Rattle.kms_world.specs.declared.container.ContainerRow.{ContainerRow}
use Rattle.kms_world.specs.declared.order.OrderRow.{OrderRow}
use Rattle.kms_world.specs.declared.acl.AclRow.{AclRow}
use Rattle.kms_world.specs.declared.quota.QuotaRow.{QuotaRow}

abbrev pub secret_of : Id → List SecretRow → Option SecretRow
secret_of id rows = find (λ r. is_id id r.id) rows

abbrev pub container_of : Id → List ContainerRow → Option ContainerRow
container_of id rows = find (λ r. is_id id r.id) rows

abbrev pub order_of : Id → List OrderRow → Option OrderRow
order_of id rows = find (λ r. is_id id r.id) rows

-- the access list of a secret or a container
abbrev pub acl_of : (target : Id) → List AclRow → Option AclRow
acl_of target rows = find (λ r. is_id target r.target) rows

-- the quotas of a project
abbrev pub quota_of : (project : List ℕ) → List QuotaRow → Option QuotaRow
quota_of project rows = find (λ r. bytes_eq project r.project) rows
