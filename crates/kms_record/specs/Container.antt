-- The change that puts a container.
use Rattle.std.specs.Prelude.{◌≡◌, ℕ, ◌<◌, ◌≤◌, ◌^◌, List, ◌++◌, length, true, IfSome}
use Rattle.std.specs.List.{AllByRecursion}
use Rattle.std.specs.Str.{IsUtf8}
use Rattle.kms_world.specs.Name.{is_name}
use Rattle.kms_world.specs.Times.{end_of_times}
use Rattle.kms_record.specs.declared.container.ContainerPut.{ContainerPut}
use Rattle.kms_record.specs.declared.member.Member.{Member}
use Rattle.kms_record.specs.Fields.{u8_bytes, u64_bytes, text_bytes, option_bytes, list_bytes, container_kind_number, IsShort}

-- a member's name and the count of its secret's id
unfoldable pub member_bytes : Member → List ℕ
member_bytes member = option_bytes text_bytes member.name ++ u64_bytes member.secret

pub record IsMemberInRange (member : Member) : Type 0 where
  pub name : IfSome member.name IsShort
  pub secret : member.secret < 2 ^ 62

pub record AreMembersInRange (members : List Member) : Type 0 where
  pub few : length members ≤ 100
  pub each : AllByRecursion IsMemberInRange members

abbrev pub IsMemberTyped : Member → Type 0
IsMemberTyped member = IfSome member.name IsUtf8

abbrev pub AreMembersTyped : List Member → Type 0
AreMembersTyped members = AllByRecursion IsMemberTyped members

-- its fields in their order
unfoldable pub container_put_bytes : ContainerPut → List ℕ
container_put_bytes put =
    u64_bytes put.id ++ text_bytes put.project ++ text_bytes put.creator ++ u64_bytes put.created
    ++ u64_bytes put.updated ++ option_bytes text_bytes put.name ++ u8_bytes (container_kind_number put.kind)
    ++ list_bytes member_bytes put.members

-- its numbers and lengths are in their ranges
pub record IsContainerPutInRange (put : ContainerPut) : Type 0 where
  pub id : put.id < 2 ^ 62
  pub project : length put.project ≤ 64
  pub creator : length put.creator ≤ 64
  pub created : put.created < end_of_times
  pub updated : put.updated < end_of_times
  pub name : IfSome put.name IsShort
  pub members : AreMembersInRange put.members

-- what its fields' types say, in every value of the program
pub record IsContainerPutTyped (put : ContainerPut) : Type 0 where
  pub project : is_name put.project ≡ true
  pub creator : is_name put.creator ≡ true
  pub name : IfSome put.name IsUtf8
  pub members : AreMembersTyped put.members
