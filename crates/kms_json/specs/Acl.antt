-- Access lists as objects (Barbican API v1, the response to GET /v1/secrets/{uuid}/acl).
use Rattle.std.specs.Prelude.{ℕ, List, map, Option, Some, None, true, codes}
use Rattle.serde_json.specs.Data.{Data, boolean, string, array, object, Members, member, no_members}
use Rattle.serde_json.specs.View.{items_of}
use Rattle.kms_world.specs.declared.acl.AclRow.{AclRow}
use Rattle.kms_json.specs.Values.{time_data}

abbrev pub users_data : List (List ℕ) → Data
users_data users = array (items_of (map string users))

-- where there is no list, the row's project may read
abbrev pub read_members : Option AclRow → Members
read_members None = member (codes "project-access") (boolean true) no_members
read_members (Some row) =
    member (codes "created") (time_data row.created) (
    member (codes "project-access") (boolean row.project_access) (
    member (codes "updated") (time_data row.updated) (
    member (codes "users") (users_data row.users) no_members)))

abbrev pub acl_data : Option AclRow → Data
acl_data row = object (member (codes "read") (object (read_members row)) no_members)
