-- The change of quotas.
use Rattle.std.specs.Prelude.{◌≡◌, ℕ, ◌≤◌, List, [], ◌∷◌, ◌++◌, length, Option, Some, None, true, IfSome}
use Rattle.kms_world.specs.Name.{is_name}
use Rattle.kms_record.specs.declared.quota.QuotaPut.{QuotaPut}
use Rattle.kms_record.specs.declared.quota.QuotaLimits.{QuotaLimits}
use Rattle.kms_record.specs.declared.quota.QuotaLimit.{QuotaLimit}
use Rattle.kms_record.specs.declared.quota.QuotaLimit.TheVariants.{Unlimited, AtMost}
use Rattle.kms_record.specs.Fields.{u32_bytes, text_bytes, option_bytes}

-- 0 where it isn't set; 1 without limit; or 2 and the limit
abbrev pub limit_bytes : Option QuotaLimit → List ℕ
limit_bytes None = 0 ∷ []
limit_bytes (Some Unlimited) = 1 ∷ []
limit_bytes (Some (AtMost count)) = 2 ∷ u32_bytes count

abbrev pub IsLimitInRange : Option QuotaLimit → Type 0
IsLimitInRange None = Unit {0}
IsLimitInRange (Some Unlimited) = Unit {0}
IsLimitInRange (Some (AtMost count)) = count ≤ 1000000000

unfoldable pub limits_bytes : QuotaLimits → List ℕ
limits_bytes limits = limit_bytes limits.secrets ++ limit_bytes limits.orders ++ limit_bytes limits.containers ++ limit_bytes limits.consumers

pub record AreLimitsInRange (limits : QuotaLimits) : Type 0 where
  pub secrets : IsLimitInRange limits.secrets
  pub orders : IsLimitInRange limits.orders
  pub containers : IsLimitInRange limits.containers
  pub consumers : IsLimitInRange limits.consumers

-- its fields in their order
unfoldable pub quota_put_bytes : QuotaPut → List ℕ
quota_put_bytes put = text_bytes put.project ++ option_bytes limits_bytes put.limits

-- its numbers and lengths are in their ranges
pub record IsQuotaPutInRange (put : QuotaPut) : Type 0 where
  pub project : length put.project ≤ 64
  pub limits : IfSome put.limits AreLimitsInRange

-- what its fields' types say, in every value of the program
pub record IsQuotaPutTyped (put : QuotaPut) : Type 0 where
  pub project : is_name put.project ≡ true
