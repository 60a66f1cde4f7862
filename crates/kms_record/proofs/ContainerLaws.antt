-- The reader of containers is exact.
use Rattle.std.proofs.Common.{◌≡◌, ℕ, ◌<◌, ◌≤◌, ◌^◌, true, List, ◌++◌, length, refl, append_assoc}
use Rattle.std.specs.Prelude.{IfSome}
use Rattle.std.specs.Str.{IsUtf8}
use Rattle.kms_world.specs.Name.{is_name}
use Rattle.kms_world.specs.Times.{end_of_times}
use Rattle.kms_record.specs.declared.container.ContainerPut.{ContainerPut}
use Rattle.kms_record.specs.declared.member.Member.{Member}
use Rattle.kms_record.specs.Fields.{u8_bytes, u64_bytes, text_bytes, option_bytes, list_bytes, container_kind_number, IsShort}
use Rattle.kms_record.specs.Container.{member_bytes, IsMemberInRange, AreMembersInRange, IsMemberTyped, AreMembersTyped, container_put_bytes, IsContainerPutInRange, IsContainerPutTyped}
use Rattle.kms_record.specs.ContainerReading.{member_with, member_at, members_at, ContainerPutFields, container_put_with, container_put_fields_at, container_put_at}
use Rattle.kms_record.proofs.Codec.{IsCodec, refitted, respelled, both_codec, made_codec}
use Rattle.kms_record.proofs.FieldLaws.{id_codec, time_codec, short_name_codec, optional_text_codec}
use Rattle.kms_record.proofs.CodeLaws.{container_kind_codec}
use Rattle.kms_record.proofs.ListLaws.{list_codec}
use Rattle.kms_record.proofs.PairwiseLaws.{parted, joined}

member_codec : IsCodec member_bytes (λ m. IsMemberInRange m × IsMemberTyped m) member_at
unfolding member_bytes member_at
member_codec = refitted (made_codec member_with (λ (m : Member). (m.name, m.secret)) (λ f. refl) (λ m. refl) (both_codec optional_text_codec id_codec))
    (λ m f. (record { name = f.0.0; secret = f.1 }, f.0.1))
    (λ m f. ((f.0.name, f.1), f.0.secret))

members_codec : IsCodec (list_bytes member_bytes) (λ ms. AreMembersInRange ms × AreMembersTyped ms) members_at
members_codec = refitted (list_codec member_codec)
    (λ ms f. let p = parted IsMemberInRange IsMemberTyped ms f.1 in (record { few = f.0; each = p.0 }, p.1))
    (λ ms f. (f.0.few, joined IsMemberInRange IsMemberTyped ms (f.0.each, f.1)))

-- ---- ContainerPut

abbrev container_put_fields : ContainerPut → ContainerPutFields
container_put_fields put = (put.id, (put.project, (put.creator, (put.created, (put.updated, (put.name, (put.kind, put.members)))))))

abbrev container_put_spelled : ContainerPutFields → List ℕ
container_put_spelled (id, (project, (creator, (created, (updated, (name, (kind, members))))))) = u64_bytes id ++ (text_bytes project ++ (text_bytes creator ++ (u64_bytes created ++ (u64_bytes updated ++ (option_bytes text_bytes name ++ (u8_bytes (container_kind_number kind) ++ list_bytes member_bytes members))))))

abbrev ContainerPutFit : ContainerPutFields → Type 0
ContainerPutFit (id, (project, (creator, (created, (updated, (name, (kind, members))))))) = (id < 2 ^ 62) × (((length project ≤ 64) × (is_name project ≡ true)) × (((length creator ≤ 64) × (is_name creator ≡ true)) × ((created < end_of_times) × ((updated < end_of_times) × (((IfSome name IsShort) × (IfSome name IsUtf8)) × (Unit {0} × ((AreMembersInRange members) × (AreMembersTyped members))))))))

container_put_fields_codec : IsCodec container_put_spelled ContainerPutFit container_put_fields_at
container_put_fields_codec = both_codec id_codec (both_codec short_name_codec (both_codec short_name_codec (both_codec time_codec (both_codec time_codec (both_codec optional_text_codec (both_codec container_kind_codec members_codec))))))

container_put_admitted : (put : ContainerPut) → ContainerPutFit (container_put_fields put) → IsContainerPutInRange put × IsContainerPutTyped put
container_put_admitted put (id, (project, (creator, (created, (updated, (name, (kind, members))))))) = (record { id = id; project = project.0; creator = creator.0; created = created; updated = updated; name = name.0; members = members.0 }, record { project = project.1; creator = creator.1; name = name.1; members = members.1 })

container_put_fitting : (put : ContainerPut) → IsContainerPutInRange put × IsContainerPutTyped put → ContainerPutFit (container_put_fields put)
container_put_fitting put h = (h.0.id, ((h.0.project, h.1.project), ((h.0.creator, h.1.creator), (h.0.created, (h.0.updated, ((h.0.name, h.1.name), (tt, (h.0.members, h.1.members))))))))

container_put_same : (put : ContainerPut) → container_put_spelled (container_put_fields put) ≡ container_put_bytes put
unfolding container_put_bytes
container_put_same put = simp append_assoc

pub container_put_codec : IsCodec container_put_bytes (λ put. IsContainerPutInRange put × IsContainerPutTyped put) container_put_at
unfolding container_put_at
container_put_codec = refitted (respelled (made_codec container_put_with container_put_fields (λ f. refl) (λ put. refl) container_put_fields_codec) container_put_same) container_put_admitted container_put_fitting
