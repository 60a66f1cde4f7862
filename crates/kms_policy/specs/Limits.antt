-- Bodies of quotas: the limits, and the first rule that a body breaks.
use Rattle.std.specs.Prelude.{Bool, true, not, ◌&&◌, Option, Some, None, Result, Ok, Err, if◌then◌else◌, ℤ, pos, negsuc, int_le}
use Rattle.kms_world.specs.declared.body.QuotaBody.{QuotaBody}
use Rattle.kms_world.specs.declared.body.QuotaValues.{QuotaValues}
use Rattle.kms_world.specs.declared.refusal.Field.TheVariants.{ProjectQuotas, Secrets, Orders, Containers, Consumers}
use Rattle.kms_world.specs.declared.refusal.Refusal.{Refusal}
use Rattle.kms_world.specs.declared.refusal.Refusal.TheVariants.{BadBody}
use Rattle.kms_policy.specs.declared.limits.Limits.{Limits}

-- a limit is absent, or a number from -1, which is no limit, to 1,000,000,000
abbrev pub is_limit : Option ℤ → Bool
is_limit None = true
is_limit (Some n) = int_le (negsuc 0) n && int_le n (pos 1000000000)

abbrev pub limits_by : Option QuotaValues → Result Limits Refusal
limits_by None = Err (BadBody ProjectQuotas)
limits_by (Some values) =
    if not (is_limit values.secrets) then Err (BadBody Secrets) else
    if not (is_limit values.orders) then Err (BadBody Orders) else
    if not (is_limit values.containers) then Err (BadBody Containers) else
    if not (is_limit values.consumers) then Err (BadBody Consumers) else
    Ok (record {
      secrets = values.secrets;
      orders = values.orders;
      containers = values.containers;
      consumers = values.consumers;
    })

-- the limits that a body sets, or the refusal of the first rule that it breaks
abbrev pub limits_of : QuotaBody → Result Limits Refusal
limits_of body = limits_by body.project_quotas
