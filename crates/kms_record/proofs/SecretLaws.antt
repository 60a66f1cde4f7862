-- The reader of a secret's change is exact.
use Rattle.std.proofs.Common.{◌≡◌, ℕ, ◌<◌, ◌≤◌, ◌^◌, true, List, ◌++◌, length, refl, append_assoc}
use Rattle.std.specs.Prelude.{IfSome}
use Rattle.std.specs.Str.{IsUtf8}
use Rattle.kms_world.specs.Name.{is_name}
use Rattle.kms_world.specs.Times.{end_of_times}
use Rattle.kms_record.specs.declared.secret_put.SecretPut.{SecretPut}
use Rattle.kms_record.specs.Fields.{u8_bytes, u16_bytes, u64_bytes, text_bytes, option_bytes, secret_kind_number, IsShort, IsBitLength}
use Rattle.kms_record.specs.SecretPut.{secret_put_bytes, IsInRange, IsTextual}
use Rattle.kms_record.specs.SecretPutReading.{SecretPutFields, secret_put_with, secret_put_fields_at, secret_put_at}
use Rattle.kms_record.proofs.Codec.{IsCodec, refitted, respelled, both_codec, made_codec}
use Rattle.kms_record.proofs.FieldLaws.{id_codec, time_codec, bit_length_codec, short_name_codec, optional_text_codec, option_codec}
use Rattle.kms_record.proofs.CodeLaws.{secret_kind_codec}

-- ---- SecretPut

abbrev secret_put_fields : SecretPut → SecretPutFields
secret_put_fields put = (put.id, (put.project, (put.creator, (put.created, (put.updated, (put.name, (put.algorithm, (put.bit_length, (put.mode, (put.kind, put.expiration))))))))))

abbrev secret_put_spelled : SecretPutFields → List ℕ
secret_put_spelled (id, (project, (creator, (created, (updated, (name, (algorithm, (bit_length, (mode, (kind, expiration)))))))))) = u64_bytes id ++ (text_bytes project ++ (text_bytes creator ++ (u64_bytes created ++ (u64_bytes updated ++ (option_bytes text_bytes name ++ (option_bytes text_bytes algorithm ++ (option_bytes u16_bytes bit_length ++ (option_bytes text_bytes mode ++ (u8_bytes (secret_kind_number kind) ++ option_bytes u64_bytes expiration)))))))))

abbrev SecretPutFit : SecretPutFields → Type 0
SecretPutFit (id, (project, (creator, (created, (updated, (name, (algorithm, (bit_length, (mode, (kind, expiration)))))))))) = (id < 2 ^ 62) × (((length project ≤ 64) × (is_name project ≡ true)) × (((length creator ≤ 64) × (is_name creator ≡ true)) × ((created < end_of_times) × ((updated < end_of_times) × (((IfSome name IsShort) × (IfSome name IsUtf8)) × (((IfSome algorithm IsShort) × (IfSome algorithm IsUtf8)) × ((IfSome bit_length IsBitLength) × (((IfSome mode IsShort) × (IfSome mode IsUtf8)) × (Unit {0} × (IfSome expiration (λ t. t < end_of_times)))))))))))

secret_put_fields_codec : IsCodec secret_put_spelled SecretPutFit secret_put_fields_at
secret_put_fields_codec = both_codec id_codec (both_codec short_name_codec (both_codec short_name_codec (both_codec time_codec (both_codec time_codec (both_codec optional_text_codec (both_codec optional_text_codec (both_codec (option_codec bit_length_codec) (both_codec optional_text_codec (both_codec secret_kind_codec (option_codec time_codec))))))))))

secret_put_admitted : (put : SecretPut) → SecretPutFit (secret_put_fields put) → IsInRange put × IsTextual put
secret_put_admitted put (id, (project, (creator, (created, (updated, (name, (algorithm, (bit_length, (mode, (kind, expiration)))))))))) = (record { id = id; project = project.0; creator = creator.0; created = created; updated = updated; name = name.0; algorithm = algorithm.0; bit_length = bit_length; mode = mode.0; expiration = expiration }, record { project = project.1; creator = creator.1; name = name.1; algorithm = algorithm.1; mode = mode.1 })

secret_put_fitting : (put : SecretPut) → IsInRange put × IsTextual put → SecretPutFit (secret_put_fields put)
secret_put_fitting put h = (h.0.id, ((h.0.project, h.1.project), ((h.0.creator, h.1.creator), (h.0.created, (h.0.updated, ((h.0.name, h.1.name), ((h.0.algorithm, h.1.algorithm), (h.0.bit_length, ((h.0.mode, h.1.mode), (tt, h.0.expiration))))))))))

secret_put_same : (put : SecretPut) → secret_put_spelled (secret_put_fields put) ≡ secret_put_bytes put
unfolding secret_put_bytes
secret_put_same put = simp append_assoc

pub secret_put_codec : IsCodec secret_put_bytes (λ put. IsInRange put × IsTextual put) secret_put_at
unfolding secret_put_at
secret_put_codec = refitted (respelled (made_codec secret_put_with secret_put_fields (λ f. refl) (λ put. refl) secret_put_fields_codec) secret_put_same) secret_put_admitted secret_put_fitting
