-- Quotas as objects (Barbican API v1, the responses to GET /v1/quotas and /v1/project-quotas): -1 where there is no limit,
-- null where none was set.
use Rattle.std.specs.Prelude.{codes}
use Rattle.serde_json.specs.Data.{Data, string, object, member, no_members}
use Rattle.kms_world.specs.declared.quota.QuotaRow.{QuotaRow}
use Rattle.kms_json.specs.Values.{integer_or_null}

abbrev pub limits_data : QuotaRow → Data
limits_data row = object (
    member (codes "consumers") (integer_or_null row.consumers) (
    member (codes "containers") (integer_or_null row.containers) (
    member (codes "orders") (integer_or_null row.orders) (
    member (codes "secrets") (integer_or_null row.secrets) no_members))))

abbrev pub quotas_data : QuotaRow → Data
quotas_data row = object (member (codes "quotas") (limits_data row) no_members)

abbrev pub project_quotas_data : QuotaRow → Data
project_quotas_data row = object (member (codes "project_quotas") (limits_data row) no_members)

-- one of a list
abbrev pub project_data : QuotaRow → Data
project_data row = object (
    member (codes "project_id") (string row.project) (member (codes "project_quotas") (limits_data row) no_members))
