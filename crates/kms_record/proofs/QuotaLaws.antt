-- The reader of quotas is exact.
use Rattle.std.proofs.Common.{◌≡◌, ℕ, ◌≤◌, true, List, ◌++◌, length, Option, Some, None, refl, append_assoc, arith}
use Rattle.std.specs.Prelude.{IfSome}
use Rattle.kms_world.specs.Name.{is_name}
use Rattle.kms_record.specs.declared.quota.QuotaPut.{QuotaPut}
use Rattle.std.proofs.Common.{leb}
use Rattle.std.proofs.lemmas.Bool.{leb-true, le-leb}
use Rattle.kms_record.specs.declared.quota.QuotaLimits.{QuotaLimits}
use Rattle.kms_record.specs.declared.quota.QuotaLimit.{QuotaLimit}
use Rattle.kms_record.specs.declared.quota.QuotaLimit.TheVariants.{Unlimited, AtMost}
use Rattle.kms_record.specs.Reading.{byte_at}
use Rattle.kms_record.specs.Fields.{u32_bytes, text_bytes, option_bytes}
use Rattle.kms_record.specs.Quota.{limit_bytes, IsLimitInRange, limits_bytes, AreLimitsInRange, quota_put_bytes, IsQuotaPutInRange, IsQuotaPutTyped}
use Rattle.kms_record.specs.Reading.{option_at, alternatives_at}
use Rattle.kms_record.specs.QuotaReading.{limit_number_at, limit_at, LimitFields, limits_with, quota_limits_at, QuotaPutFields, quota_put_with, quota_put_fields_at, quota_put_at}
use Rattle.kms_record.proofs.Codec.{IsCodec, refitted, respelled, both_codec, made_codec, passing_codec}
use Rattle.kms_record.proofs.FieldLaws.{short_name_codec, option_codec, u32_codec}
use Rattle.kms_record.proofs.ListLaws.{alternatives_codec, made_alternative, plain_alternative}

limit_number_codec : IsCodec u32_bytes (λ n. n ≤ 1000000000) limit_number_at
limit_number_codec = refitted (passing_codec (λ n. leb n 1000000000) u32_codec) (λ n f. leb-true _ _ f.1) (λ n le. (omega (arith, le), le-leb _ _ le))

limit_again : (limit : Option QuotaLimit) (rest : List ℕ) → IsLimitInRange limit → limit_at (limit_bytes limit ++ rest) ≡ Some (limit, rest)
unfolding alternatives_at byte_at
limit_again None rest f = refl
limit_again (Some Unlimited) rest f = refl
limit_again (Some (AtMost count)) rest f = rw (limit_number_codec.again count rest f) refl

limit_codec : IsCodec limit_bytes IsLimitInRange limit_at
limit_codec = alternatives_codec _ (
  plain_alternative 0 None refl tt,
  (
    plain_alternative 1 (Some Unlimited) refl tt,
    (made_alternative 2 (λ n. Some (AtMost n)) limit_number_codec (λ n. refl) (λ n f. f), tt),
  ),
)
    limit_again

limits_parts : QuotaLimits → LimitFields
limits_parts limits = (limits.secrets, (limits.orders, (limits.containers, limits.consumers)))

limits_codec : IsCodec limits_bytes AreLimitsInRange quota_limits_at
unfolding limits_bytes quota_limits_at limits_parts
limits_codec = refitted (respelled (made_codec limits_with limits_parts (λ f. refl) (λ l. refl) (both_codec limit_codec (both_codec limit_codec (both_codec limit_codec limit_codec)))) (λ l. simp append_assoc))
    (λ l f. record { secrets = f.0; orders = f.1.0; containers = f.1.1.0; consumers = f.1.1.1 })
    (λ l f. (f.secrets, (f.orders, (f.containers, f.consumers))))

optional_limits_codec : IsCodec (option_bytes limits_bytes) (λ o. IfSome o AreLimitsInRange) (option_at quota_limits_at)
optional_limits_codec = option_codec limits_codec

-- ---- QuotaPut

abbrev quota_put_fields : QuotaPut → QuotaPutFields
quota_put_fields put = (put.project, put.limits)

abbrev quota_put_spelled : QuotaPutFields → List ℕ
quota_put_spelled (project, limits) = text_bytes project ++ option_bytes limits_bytes limits

abbrev QuotaPutFit : QuotaPutFields → Type 0
QuotaPutFit (project, limits) = ((length project ≤ 64) × (is_name project ≡ true)) × (IfSome limits AreLimitsInRange)

quota_put_fields_codec : IsCodec quota_put_spelled QuotaPutFit quota_put_fields_at
quota_put_fields_codec = both_codec short_name_codec optional_limits_codec

quota_put_admitted : (put : QuotaPut) → QuotaPutFit (quota_put_fields put) → IsQuotaPutInRange put × IsQuotaPutTyped put
quota_put_admitted put (project, limits) = (record { project = project.0; limits = limits }, record { project = project.1 })

quota_put_fitting : (put : QuotaPut) → IsQuotaPutInRange put × IsQuotaPutTyped put → QuotaPutFit (quota_put_fields put)
quota_put_fitting put h = ((h.0.project, h.1.project), h.0.limits)

quota_put_same : (put : QuotaPut) → quota_put_spelled (quota_put_fields put) ≡ quota_put_bytes put
unfolding quota_put_bytes
quota_put_same put = refl

pub quota_put_codec : IsCodec quota_put_bytes (λ put. IsQuotaPutInRange put × IsQuotaPutTyped put) quota_put_at
unfolding quota_put_at
quota_put_codec = refitted (respelled (made_codec quota_put_with quota_put_fields (λ f. refl) (λ put. refl) quota_put_fields_codec) quota_put_same) quota_put_admitted quota_put_fitting
