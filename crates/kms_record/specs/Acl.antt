-- The change that puts an access list.
use Rattle.std.specs.Prelude.{◌≡◌, ℕ, ◌<◌, ◌≤◌, ◌^◌, List, ◌++◌, length, true}
use Rattle.std.specs.List.{AllByRecursion}
use Rattle.kms_world.specs.Name.{is_name}
use Rattle.kms_world.specs.Names.{IsWithoutRepeats}
use Rattle.kms_world.specs.Times.{end_of_times}
use Rattle.kms_record.specs.declared.acl.AclPut.{AclPut}
use Rattle.kms_record.specs.Fields.{u64_bytes, text_bytes, mark_bytes, list_bytes}

abbrev pub IsUserInRange : List ℕ → Type 0
IsUserInRange user = length user ≤ 64

pub record AreUsersInRange (users : List (List ℕ)) : Type 0 where
  pub few : length users ≤ 100
  pub each : AllByRecursion IsUserInRange users

abbrev pub IsUserTyped : List ℕ → Type 0
IsUserTyped user = is_name user ≡ true

-- the names are names, and none stands twice
pub record AreUsersTyped (users : List (List ℕ)) : Type 0 where
  pub each : AllByRecursion IsUserTyped users
  pub once : IsWithoutRepeats users

-- its fields in their order
unfoldable pub acl_put_bytes : AclPut → List ℕ
acl_put_bytes put =
    u64_bytes put.target ++ mark_bytes put.project_access ++ u64_bytes put.created ++ u64_bytes put.updated
    ++ list_bytes text_bytes put.users

-- its numbers and lengths are in their ranges
pub record IsAclPutInRange (put : AclPut) : Type 0 where
  pub target : put.target < 2 ^ 62
  pub created : put.created < end_of_times
  pub updated : put.updated < end_of_times
  pub users : AreUsersInRange put.users

-- what its fields' types say, in every value of the program
pub record IsAclPutTyped (put : AclPut) : Type 0 where
  pub users : AreUsersTyped put.users
