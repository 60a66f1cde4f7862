-- The state of the key manager: the rows that it keeps, each list in order of creation. There are no keys, tokens or
-- indexes in it.
use Rattle.std.specs.Prelude.{ℕ, List, []}
use Rattle.kms_world.specs.declared.secret.SecretRow.{SecretRow}
use Rattle.kms_world.specs.declared.container.ContainerRow.{ContainerRow}
use Rattle.kms_world.specs.declared.container.ConsumerRow.{ConsumerRow}
use Rattle.kms_world.specs.declared.order.OrderRow.{OrderRow}
use Rattle.kms_world.specs.declared.acl.AclRow.{AclRow}
use Rattle.kms_world.specs.declared.quota.QuotaRow.{QuotaRow}

pub record State : Type 0 where
  pub tag : ℕ  -- of the store, below 2 ^ 60
  pub ids : ℕ  -- how many ids were given, at most 2 ^ 62
  pub secrets : List SecretRow
  pub containers : List ContainerRow
  pub consumers : List ConsumerRow
  pub orders : List OrderRow
  pub acls : List AclRow
  pub quotas : List QuotaRow

-- a store with nothing in it
abbrev pub empty_state : ℕ → State
empty_state tag = record {
  tag = tag;
  ids = 0;
  secrets = [];
  containers = [];
  consumers = [];
  orders = [];
  acls = [];
  quotas = [];
}
