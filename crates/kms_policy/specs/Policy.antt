-- Who may do what: the action table, and the rules of which the first that applies decides.
use Rattle.std.specs.Prelude.{ℕ, Bool, true, false, not, ◌&&◌, ◌||◌, List, [], Option, Some, None, Result, Ok, Err, if◌then◌else◌, option_copied}
use Rattle.std.specs.List.{list_any}
use Rattle.std.specs.Str.{bytes_eq}
use Rattle.kms_world.specs.declared.acl.AclRow.{AclRow}
use Rattle.kms_world.specs.declared.action.Action.{Action}
use Rattle.kms_world.specs.declared.action.Action.TheVariants.{SecretCreate, ContainerCreate, OrderCreate, SecretList, ContainerList, OrderList, SecretGet, ContainerGet, ConsumerGet, SecretDecrypt, ConsumerWrite, SecretWrite, SecretDelete, ContainerWrite, ContainerDelete, AclWrite, AclGet, OrderGet, OrderDelete, QuotaGet, QuotaAdmin}
use Rattle.kms_world.specs.declared.action.Rule.{Rule}
use Rattle.kms_world.specs.declared.action.Why.{Why}
use Rattle.kms_world.specs.declared.action.Why.TheVariants.{Project, Role, Private}
use Rattle.kms_world.specs.declared.caller.Caller.{Caller}
use Rattle.kms_world.specs.declared.caller.Roles.{Roles}
use Rattle.kms_policy.specs.declared.decision.Target.{Target}
use Rattle.kms_policy.specs.declared.table.Entry.{Entry}

abbrev pub writers : Roles
writers = record { admin = true; creator = true; observer = false; audit = false; service_admin = false }

abbrev pub readers : Roles
readers = record { admin = true; creator = true; observer = true; audit = false; service_admin = false }

abbrev pub readers_and_audit : Roles
readers_and_audit = record { admin = true; creator = true; observer = true; audit = true; service_admin = false }

abbrev pub admins : Roles
admins = record { admin = true; creator = false; observer = false; audit = false; service_admin = false }

abbrev pub service_admins : Roles
service_admins = record { admin = false; creator = false; observer = false; audit = false; service_admin = true }

-- a line of the table: whether the row's access list serves the action, whether its owner does, and the roles that do
abbrev pub serving : (list_serves owner_serves : Bool) → Roles → Entry
serving list_serves owner_serves roles = record { list_serves = list_serves; owner_serves = owner_serves; roles = roles }

-- the action table
abbrev pub entry_of : Action → Entry
entry_of SecretCreate = serving false false writers
entry_of ContainerCreate = serving false false writers
entry_of OrderCreate = serving false false writers
entry_of SecretList = serving false false readers
entry_of ContainerList = serving false false readers
entry_of OrderList = serving false false readers
entry_of SecretGet = serving true true readers_and_audit
entry_of ContainerGet = serving true true readers_and_audit
entry_of ConsumerGet = serving true true readers_and_audit
entry_of SecretDecrypt = serving true true readers
entry_of ConsumerWrite = serving true true readers
entry_of SecretWrite = serving false true writers
entry_of SecretDelete = serving false true writers
entry_of ContainerWrite = serving false true writers
entry_of ContainerDelete = serving false true writers
entry_of AclWrite = serving false true writers
entry_of AclGet = serving false true readers
entry_of OrderGet = serving false false readers_and_audit
entry_of OrderDelete = serving false true admins
entry_of QuotaGet = serving false false readers_and_audit
entry_of QuotaAdmin = serving false false service_admins

-- the row that a request is about: its project, the user who made it, and its access list, if it has one
pub record Row : Type 0 where
  pub project : List ℕ
  pub creator : List ℕ
  pub acl : Option AclRow

abbrev pub row_of : Target → Row
row_of target = record { project = target.project; creator = target.creator; acl = option_copied target.acl }

-- this name is among the names
abbrev pub is_among : List ℕ → List (List ℕ) → Bool
is_among name names = list_any (λ n. bytes_eq n name) names

-- without an access list nobody is on it
abbrev pub users_listed : Option AclRow → List (List ℕ)
users_listed None = []
users_listed (Some acl) = acl.users

-- without an access list the row's project has access
abbrev pub has_project_access : Option AclRow → Bool
has_project_access None = true
has_project_access (Some acl) = acl.project_access

-- there is a row, and its access list names this user
abbrev pub is_listed : Option Row → List ℕ → Bool
is_listed None user = false
is_listed (Some row) user = is_among user (users_listed row.acl)

-- there is a row, and it is of another project than this one
abbrev pub is_elsewhere : Option Row → List ℕ → Bool
is_elsewhere None project = false
is_elsewhere (Some row) project = not (bytes_eq row.project project)

-- there is a row, and this user made it
abbrev pub is_made_by : Option Row → List ℕ → Bool
is_made_by None user = false
is_made_by (Some row) user = bytes_eq row.creator user

-- there is a row, and its access list shuts its project out
abbrev pub is_private : Option Row → Bool
is_private None = false
is_private (Some row) = not (has_project_access row.acl)

-- one of the roles that the caller has is among those that serve
abbrev pub share_role : Roles → Roles → Bool
share_role held served =
    (held.admin && served.admin) || (held.creator && served.creator) || (held.observer && served.observer)
    || (held.audit && served.audit) || (held.service_admin && served.service_admin)

abbrev pub rule : Action → Why → Rule
rule action why = record { action = action; why = why }

-- whether the action is granted to the caller, by the first rule that applies; the last one grants
unfoldable pub decision : Caller → Action → Option Row → Result (Unit {0}) Rule
decision caller action row =
    if (entry_of action).list_serves && is_listed row caller.user then Ok tt else
    if is_elsewhere row caller.project then Err (rule action Project) else
    if caller.roles.admin && (entry_of action).roles.admin then Ok tt else
    if (entry_of action).owner_serves && caller.roles.creator && is_made_by row caller.user then Ok tt else
    if not (share_role caller.roles (entry_of action).roles) then Err (rule action Role) else
    if is_private row then Err (rule action Private) else
    Ok tt
