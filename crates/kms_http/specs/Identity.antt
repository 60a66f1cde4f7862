-- Who calls, by the fields that the identity service in front sets.
use Rattle.std.specs.Prelude.{ℕ, List, [], ◌∷◌, Bool, true, false, Option, Some, None, if◌then◌else◌, codes}
use Rattle.std.specs.Str.{bytes_eq}
use Rattle.kms_world.specs.Name.{is_name}
use Rattle.kms_world.specs.declared.caller.Caller.{Caller}
use Rattle.kms_world.specs.declared.caller.Roles.{Roles}
use Rattle.kms_http.specs.Elements.{has_element}
use Rattle.kms_http.specs.Fields.{Pair, values_of}

-- the value, where there is one and no other
abbrev pub once : List (List ℕ) → Option (List ℕ)
once [] = None
once (value ∷ []) = Some value
once (value ∷ other ∷ more) = None

-- no status, or `Confirmed` alone
abbrev pub is_confirmed : List (List ℕ) → Bool
is_confirmed [] = true
is_confirmed (value ∷ []) = bytes_eq value (codes "Confirmed")
is_confirmed (value ∷ other ∷ more) = false

abbrev pub name_read : Option (List ℕ) → Option (List ℕ)
name_read None = None
name_read (Some value) = if is_name value then Some value else None

-- the roles among the elements of a value
abbrev pub roles_in : List ℕ → Roles
roles_in value = record {
  admin = has_element (codes "admin") value;
  creator = has_element (codes "creator") value;
  observer = has_element (codes "observer") value;
  audit = has_element (codes "audit") value;
  service_admin = has_element (codes "key-manager:service-admin") value;
}

abbrev pub caller_by : (project user roles : Option (List ℕ)) → Option Caller
caller_by (Some project) (Some user) (Some roles) = Some (record { project = project; user = user; roles = roles_in roles })
caller_by (Some project) (Some user) None = None
caller_by (Some project) None roles = None
caller_by None user roles = None

-- the caller, where each of the three fields stands once, the first two with a name, and the status is good
unfoldable pub caller_in : List Pair → Option Caller
caller_in fields =
    if is_confirmed (values_of (codes "x-identity-status") fields)
    then caller_by
    (name_read (once (values_of (codes "x-project-id") fields)))
    (name_read (once (values_of (codes "x-user-id") fields)))
    (once (values_of (codes "x-roles") fields))
    else None
