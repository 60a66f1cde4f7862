-- Quotas: the limit in force, and whether it has room.
use Rattle.std.specs.Prelude.{◌≡◌, ℕ, Bool, true, Option, Some, None, ℤ, pos, negsuc, nat_lt}
use Rattle.kms_world.specs.declared.quota.QuotaKind.{QuotaKind}
use Rattle.kms_world.specs.declared.quota.QuotaKind.TheVariants.{Secrets, Orders, Containers, Consumers}
use Rattle.kms_world.specs.declared.quota.QuotaRow.{QuotaRow}
use Rattle.kms_policy.specs.Limits.{is_limit}

-- each value of the row may be a limit
pub record HasLimits (row : QuotaRow) : Type 0 where
  pub secrets : is_limit row.secrets ≡ true
  pub orders : is_limit row.orders ≡ true
  pub containers : is_limit row.containers ≡ true
  pub consumers : is_limit row.consumers ≡ true

abbrev pub value_of : QuotaRow → QuotaKind → Option ℤ
value_of row Secrets = row.secrets
value_of row Orders = row.orders
value_of row Containers = row.containers
value_of row Consumers = row.consumers

-- a value that is absent or below 0 is no limit
abbrev pub limit_from : Option ℤ → Option ℕ
limit_from None = None
limit_from (Some (pos n)) = Some n
limit_from (Some (negsuc n)) = None

-- the limit in force of a project with this quota row, None where it is unlimited
abbrev pub limit_in_force : Option QuotaRow → QuotaKind → Option ℕ
limit_in_force None kind = None
limit_in_force (Some row) kind = limit_from (value_of row kind)

-- the limit isn't reached by so many rows
abbrev pub has_room : ℕ → Option ℕ → Bool
has_room count None = true
has_room count (Some limit) = nat_lt count limit
