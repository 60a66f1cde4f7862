-- A consumer of a container stands once, a target has one access list, and a project one row of quotas.
use Rattle.std.specs.Prelude.{◌≡◌, false, List, [], ◌∷◌}
use Rattle.std.specs.List.{AllByRecursion}
use Rattle.std.specs.Str.{bytes_eq}
use Rattle.kms_world.specs.Effect.{is_consumer}
use Rattle.kms_world.specs.Id.{is_id}
use Rattle.kms_world.specs.State.{State}
use Rattle.kms_world.specs.declared.acl.AclRow.{AclRow}
use Rattle.kms_world.specs.declared.container.ConsumerRow.{ConsumerRow}
use Rattle.kms_world.specs.declared.quota.QuotaRow.{QuotaRow}

-- each has the relation to all that stand after it
abbrev pub Pairwise : {X : Type 0} → (X → X → Type 0) → List X → Type 0
Pairwise R [] = Unit {0}
Pairwise R (first ∷ rest) = AllByRecursion (R first) rest × Pairwise R rest

abbrev pub AreOtherConsumers : ConsumerRow → ConsumerRow → Type 0
AreOtherConsumers a b = is_consumer b.container b.name b.url a ≡ false

abbrev pub HaveOtherTargets : AclRow → AclRow → Type 0
HaveOtherTargets a b = is_id b.target a.target ≡ false

abbrev pub HaveOtherProjects : QuotaRow → QuotaRow → Type 0
HaveOtherProjects a b = bytes_eq b.project a.project ≡ false

pub record StandOnce (s : State) : Type 0 where
  pub consumers : Pairwise AreOtherConsumers s.consumers
  pub acls : Pairwise HaveOtherTargets s.acls
  pub quotas : Pairwise HaveOtherProjects s.quotas
