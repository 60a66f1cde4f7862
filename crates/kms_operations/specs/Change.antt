-- Changes that operations need.
use Rattle.std.specs.Prelude.{ℕ, List, Option, Some, None}
use Rattle.kms_record.specs.Base.{count_of}
use Rattle.kms_record.specs.declared.change.Change.{Change}
use Rattle.kms_record.specs.declared.change.Change.TheVariants.{AclDropped}
use Rattle.kms_record.specs.declared.container.ContainerPut.{ContainerPut}
use Rattle.kms_record.specs.declared.member.Member.{Member}
use Rattle.kms_world.specs.declared.acl.AclRow.{AclRow}
use Rattle.kms_world.specs.declared.container.ContainerRow.{ContainerRow}

-- an access list that is there goes
abbrev pub drop_of : (target : ℕ) → Option AclRow → Option Change
drop_of target None = None
drop_of target (Some acl) = Some (AclDropped target)

-- the container as it is put with other members, at this time
abbrev pub members_put : ContainerRow → List Member → ℕ → ContainerPut
members_put row members t = record {
  id = count_of row.id;
  project = row.project;
  creator = row.creator;
  created = row.created;
  updated = t;
  name = row.name;
  kind = row.kind;
  members = members;
}
