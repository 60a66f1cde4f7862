-- How the change that puts a container is read.
use Rattle.std.specs.Prelude.{ℕ, List, Option}
use Rattle.kms_world.specs.declared.container.ContainerKind.{ContainerKind}
use Rattle.kms_record.specs.declared.container.ContainerPut.{ContainerPut}
use Rattle.kms_record.specs.declared.member.Member.{Member}
use Rattle.kms_record.specs.Reading.{Read, id_at, time_at, short_text_at, name_at, container_kind_at, option_at, both, made_of, list_at}

abbrev pub MemberFields : Type 0
MemberFields = Option (List ℕ) × ℕ

abbrev pub member_with : MemberFields → Member
member_with (name, secret) = record { name = name; secret = secret }

unfoldable pub member_at : Read Member
member_at = made_of member_with (both (option_at short_text_at) id_at)

abbrev pub members_at : Read (List Member)
members_at = list_at member_at

abbrev pub ContainerPutFields : Type 0
ContainerPutFields = ℕ × (List ℕ × (List ℕ × (ℕ × (ℕ × (Option (List ℕ) × (ContainerKind × List Member))))))

abbrev pub container_put_with : ContainerPutFields → ContainerPut
container_put_with (id, (project, (creator, (created, (updated, (name, (kind, members))))))) = record { id = id; project = project; creator = creator; created = created; updated = updated; name = name; kind = kind; members = members }

abbrev pub container_put_fields_at : Read ContainerPutFields
container_put_fields_at = both id_at (both name_at (both name_at (both time_at (both time_at (both (option_at short_text_at) (both container_kind_at members_at))))))

unfoldable pub container_put_at : Read ContainerPut
container_put_at = made_of container_put_with container_put_fields_at
