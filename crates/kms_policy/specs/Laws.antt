-- Words of the laws of the policy.
use Rattle.std.specs.Prelude.{◌≡◌, ℕ, false, true, List, Some, option_map}
use Rattle.kms_world.specs.declared.acl.AclRow.{AclRow}
use Rattle.kms_world.specs.declared.action.Action.{Action}
use Rattle.kms_world.specs.declared.caller.Caller.{Caller}
use Rattle.kms_world.specs.declared.caller.Roles.{Roles}
use Rattle.kms_policy.specs.Policy.{Row, decision}

abbrev pub no_role : Roles
no_role = record { admin = false; creator = false; observer = false; audit = false; service_admin = false }

abbrev pub audit_alone : Roles
audit_alone = record { admin = false; creator = false; observer = false; audit = true; service_admin = false }

abbrev pub list_of : List (List ℕ) → AclRow → AclRow
list_of users acl = record acl { users = users }

-- the row, with these users on its access list, if it has one
abbrev pub with_users : Row → List (List ℕ) → Row
with_users row users = record row { acl = option_map (list_of users) row.acl }

-- on each row the decision is the same whoever is on the access list
abbrev pub IgnoresList : Caller → Action → Type 0
IgnoresList caller action =
    (row : Row) (users : List (List ℕ)) → decision caller action (Some (with_users row users)) ≡ decision caller action (Some row)
