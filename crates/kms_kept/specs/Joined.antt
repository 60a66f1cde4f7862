-- What hangs on a row goes with it: each consumer's container is there, and each access list's target.
use Rattle.std.specs.Prelude.{◌≡◌, ◌||◌, true, is_some}
use Rattle.std.specs.List.{AllByRecursion}
use Rattle.kms_world.specs.State.{State}
use Rattle.kms_world.specs.declared.acl.AclRow.{AclRow}
use Rattle.kms_world.specs.declared.container.ConsumerRow.{ConsumerRow}
use Rattle.kms_world.specs.LookUp.{secret_of, container_of}

abbrev pub HasContainer : State → ConsumerRow → Type 0
HasContainer s row = is_some (container_of row.container s.containers) ≡ true

abbrev pub HasTarget : State → AclRow → Type 0
HasTarget s row = (is_some (secret_of row.target s.secrets) || is_some (container_of row.target s.containers)) ≡ true

pub record IsJoined (s : State) : Type 0 where
  pub consumers : AllByRecursion (HasContainer s) s.consumers
  pub acls : AllByRecursion (HasTarget s) s.acls
