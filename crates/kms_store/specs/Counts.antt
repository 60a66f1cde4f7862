-- How many rows of each kind a project has.
use Rattle.std.specs.Prelude.{◌≡◌, ℕ, ◌+◌, ◌≤◌, List, length, filter, vec_len, vec_capacity}
use Rattle.std.specs.Str.{bytes_eq}
use Rattle.kms_world.specs.LookUp.{container_of}
use Rattle.kms_world.specs.State.{State}
use Rattle.kms_world.specs.declared.container.ContainerRow.{ContainerRow}
use Rattle.kms_world.specs.declared.quota.QuotaKind.{QuotaKind}
use Rattle.kms_world.specs.declared.quota.QuotaKind.TheVariants.{Secrets, Orders, Containers, Consumers}
use Rattle.kms_kept.specs.Kept.{has}
use Rattle.kms_store.specs.Tally.{rows_in, ProjectRows, ProjectsAscend}
use Rattle.kms_store.specs.declared.counts.Counts.{Counts}

-- so many of the rows are the project's
abbrev pub rows_of : {X : Type 0} → (X → List ℕ) → (project : List ℕ) → List X → ℕ
rows_of project_of project rows = length (filter (λ r. bytes_eq project (project_of r)) rows)

-- the project's rows of a kind; a consumer is that of its container's project
abbrev pub count_of : QuotaKind → (project : List ℕ) → State → ℕ
count_of Secrets project s = rows_of (λ r. r.project) project s.secrets
count_of Orders project s = rows_of (λ r. r.project) project s.orders
count_of Containers project s = rows_of (λ r. r.project) project s.containers
count_of Consumers project s = length (filter (λ r. has (container_of r.container s.containers) (λ (c : ContainerRow). bytes_eq project c.project)) s.consumers)

-- the entries say how many rows each project has
pub record Tallies (count : List ℕ → ℕ) (entries : List ProjectRows) : Type 0 where
  pub ascend : ProjectsAscend entries
  pub each : (project : List ℕ) → rows_in project entries ≡ count project

-- what is counted are the rows of this state
pub record AreCounted (c : Counts) (s : State) : Type 0 where
  pub secrets : Tallies (λ project. count_of Secrets project s) c.secrets.items
  pub containers : Tallies (λ project. count_of Containers project s) c.containers.items
  pub orders : Tallies (λ project. count_of Orders project s) c.orders.items
  pub consumers : Tallies (λ project. count_of Consumers project s) c.consumers.items

-- there is memory for the entries of so many projects more
pub record HasEntries (n : ℕ) (c : Counts) : Type 0 where
  pub secrets : vec_len c.secrets + n ≤ vec_capacity c.secrets
  pub containers : vec_len c.containers + n ≤ vec_capacity c.containers
  pub orders : vec_len c.orders + n ≤ vec_capacity c.orders
  pub consumers : vec_len c.consumers + n ≤ vec_capacity c.consumers

-- one change takes at most one place of those for which there is memory
abbrev pub LeavesEntries : (old new : Counts) → Type 0
LeavesEntries old new = (n : ℕ) → HasEntries (n + 1) old → HasEntries n new
