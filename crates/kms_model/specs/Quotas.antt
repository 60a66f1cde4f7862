-- The operations on quotas, and whether a quota has room for one row more.
use Rattle.std.specs.Prelude.{ℕ, List, [], ◌∷◌, Option, Some, None, Result, Ok, nat_lt, ℤ, pos, negsuc}
use Rattle.kms_policy.specs.Limits.{limits_of}
use Rattle.kms_policy.specs.Quota.{limit_in_force}
use Rattle.kms_policy.specs.declared.limits.Limits.{Limits}
use Rattle.kms_world.specs.Effect.{QuotaPut, QuotaDropped}
use Rattle.kms_world.specs.LookUp.{quota_of}
use Rattle.kms_world.specs.State.{State}
use Rattle.kms_world.specs.declared.action.Action.TheVariants.{QuotaGet, QuotaAdmin}
use Rattle.kms_world.specs.declared.answer.Answer.TheVariants.{Empty, Quotas, ProjectQuotas}
use Rattle.kms_world.specs.declared.body.QuotaBody.{QuotaBody}
use Rattle.kms_world.specs.declared.caller.Caller.{Caller}
use Rattle.kms_world.specs.declared.quota.QuotaKind.{QuotaKind}
use Rattle.kms_world.specs.declared.quota.QuotaKind.TheVariants.{Secrets, Orders, Containers, Consumers}
use Rattle.kms_world.specs.declared.quota.QuotaRow.{QuotaRow}
use Rattle.kms_world.specs.declared.refusal.Refusal.{Refusal}
use Rattle.kms_world.specs.declared.refusal.Refusal.TheVariants.{QuotaReached}
use Rattle.kms_model.specs.Counts.{count_of}
use Rattle.kms_model.specs.Done.{Done, ◌>>=◌, only_if, there}
use Rattle.kms_model.specs.Permission.{granted}

-- so many rows are below the limit, None where there is none
abbrev pub below_limit : QuotaKind → Option ℕ → (count : ℕ) → Result (Unit {0}) Refusal
below_limit kind None count = Ok tt
below_limit kind (Some limit) count = only_if (nat_lt count limit) (QuotaReached kind limit)

-- the project's quota has room for one row more of this kind
abbrev pub within_quota : State → (project : List ℕ) → QuotaKind → Result (Unit {0}) Refusal
within_quota s project kind = below_limit kind (limit_in_force (quota_of project s.quotas) kind) (count_of kind project s)

-- a limit as it is shown: -1 where there is none
abbrev pub shown_limit : Option ℕ → ℤ
shown_limit None = negsuc 0
shown_limit (Some limit) = pos limit

-- the limits in force of a project
abbrev pub limits_shown : (project : List ℕ) → Option QuotaRow → QuotaRow
limits_shown project row = record {
  project = project;
  secrets = Some (shown_limit (limit_in_force row Secrets));
  orders = Some (shown_limit (limit_in_force row Orders));
  containers = Some (shown_limit (limit_in_force row Containers));
  consumers = Some (shown_limit (limit_in_force row Consumers));
}

abbrev pub row_with : (project : List ℕ) → Limits → QuotaRow
row_with project limits = record {
  project = project;
  secrets = limits.secrets;
  orders = limits.orders;
  containers = limits.containers;
  consumers = limits.consumers;
}

-- GET of the limits in force for the caller's project
abbrev pub quotas_shown : State → Caller → Result Done Refusal
quotas_shown s caller = do
  may ← granted caller QuotaGet None
  Ok (record { answer = Quotas (limits_shown caller.project (quota_of caller.project s.quotas)); effects = [] })

-- GET of a project's quotas as they were set
abbrev pub project_quotas_shown : State → Caller → (project : Option (List ℕ)) → Result Done Refusal
project_quotas_shown s caller project = do
  name ← there project
  may ← granted caller QuotaAdmin None
  row ← there (quota_of name s.quotas)
  Ok (record { answer = ProjectQuotas row; effects = [] })

-- PUT of a project's quotas: all four
abbrev pub project_quotas_put : State → Caller → (project : Option (List ℕ)) → Result QuotaBody Refusal → Result Done Refusal
project_quotas_put s caller project body = do
  name ← there project
  may ← granted caller QuotaAdmin None
  given ← body
  limits ← limits_of given
  Ok (record { answer = Empty 204; effects = QuotaPut (row_with name limits) ∷ [] })

-- DELETE of a project's quotas
abbrev pub project_quotas_deleted : State → Caller → (project : Option (List ℕ)) → Result Done Refusal
project_quotas_deleted s caller project = do
  name ← there project
  may ← granted caller QuotaAdmin None
  row ← there (quota_of name s.quotas)
  Ok (record { answer = Empty 204; effects = QuotaDropped name ∷ [] })
