-- How the change of quotas is read.
use Rattle.std.specs.Prelude.{ℕ, List, Option, Some, None, ◌∷◌, [], nat_le}
use Rattle.std.specs.Int.{w32}
use Rattle.kms_record.specs.declared.quota.QuotaPut.{QuotaPut}
use Rattle.kms_record.specs.declared.quota.QuotaLimits.{QuotaLimits}
use Rattle.kms_record.specs.declared.quota.QuotaLimit.{QuotaLimit}
use Rattle.kms_record.specs.declared.quota.QuotaLimit.TheVariants.{Unlimited, AtMost}
use Rattle.kms_record.specs.Reading.{Read, name_at, option_at, number_at, both, made_of, passing, alternatives_at, nothing_at}

abbrev pub limit_number_at : Read ℕ
limit_number_at = passing (λ n. nat_le n 1000000000) (number_at w32)

abbrev pub limit_at : Read (Option QuotaLimit)
limit_at = alternatives_at ((0, nothing_at None) ∷ (1, nothing_at (Some Unlimited)) ∷ (2, made_of (λ n. Some (AtMost n)) limit_number_at) ∷ [])

abbrev pub LimitFields : Type 0
LimitFields = Option QuotaLimit × (Option QuotaLimit × (Option QuotaLimit × Option QuotaLimit))

abbrev pub limits_with : LimitFields → QuotaLimits
limits_with (secrets, (orders, (containers, consumers))) = record { secrets = secrets; orders = orders; containers = containers; consumers = consumers }

unfoldable pub quota_limits_at : Read QuotaLimits
quota_limits_at = made_of limits_with (both limit_at (both limit_at (both limit_at limit_at)))

abbrev pub QuotaPutFields : Type 0
QuotaPutFields = List ℕ × Option QuotaLimits

abbrev pub quota_put_with : QuotaPutFields → QuotaPut
quota_put_with (project, limits) = record { project = project; limits = limits }

abbrev pub quota_put_fields_at : Read QuotaPutFields
quota_put_fields_at = both name_at (option_at quota_limits_at)

unfoldable pub quota_put_at : Read QuotaPut
quota_put_at = made_of quota_put_with quota_put_fields_at
