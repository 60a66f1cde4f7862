-- How many rows of a kind a project has.
use Rattle.std.specs.Prelude.{ℕ, Bool, false, List, length, filter, Option, Some, None}
use Rattle.std.specs.Str.{bytes_eq}
use Rattle.kms_world.specs.LookUp.{container_of}
use Rattle.kms_world.specs.State.{State}
use Rattle.kms_world.specs.declared.container.ContainerRow.{ContainerRow}
use Rattle.kms_world.specs.declared.quota.QuotaKind.{QuotaKind}
use Rattle.kms_world.specs.declared.quota.QuotaKind.TheVariants.{Secrets, Orders, Containers, Consumers}

-- the container is there, and the project's
abbrev pub is_in : (project : List ℕ) → Option ContainerRow → Bool
is_in project None = false
is_in project (Some row) = bytes_eq project row.project

-- a consumer counts for the project of its container
abbrev pub count_of : QuotaKind → (project : List ℕ) → State → ℕ
count_of Secrets project s = length (filter (λ r. bytes_eq project r.project) s.secrets)
count_of Orders project s = length (filter (λ r. bytes_eq project r.project) s.orders)
count_of Containers project s = length (filter (λ r. bytes_eq project r.project) s.containers)
count_of Consumers project s = length (filter (λ r. is_in project (container_of r.container s.containers)) s.consumers)
