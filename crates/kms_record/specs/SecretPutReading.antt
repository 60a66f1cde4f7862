-- How the fields of a change of a secret are read.
use Rattle.std.specs.Prelude.{ℕ, List, Option}
use Rattle.kms_world.specs.declared.secret.SecretKind.{SecretKind}
use Rattle.kms_record.specs.declared.secret_put.SecretPut.{SecretPut}
use Rattle.kms_record.specs.Reading.{Read, id_at, time_at, bit_length_at, short_text_at, name_at, secret_kind_at, option_at, both, made_of}

abbrev pub SecretPutFields : Type 0
SecretPutFields = ℕ × (List ℕ × (List ℕ × (ℕ × (ℕ × (Option (List ℕ) × (Option (List ℕ) × (Option ℕ × (Option (List ℕ) × (SecretKind × Option ℕ)))))))))

abbrev pub secret_put_with : SecretPutFields → SecretPut
secret_put_with (id, (project, (creator, (created, (updated, (name, (algorithm, (bit_length, (mode, (kind, expiration)))))))))) = record { id = id; project = project; creator = creator; created = created; updated = updated; name = name; algorithm = algorithm; bit_length = bit_length; mode = mode; kind = kind; expiration = expiration }

abbrev pub secret_put_fields_at : Read SecretPutFields
secret_put_fields_at = both id_at (both name_at (both name_at (both time_at (both time_at (both (option_at short_text_at) (both (option_at short_text_at) (both (option_at bit_length_at) (both (option_at short_text_at) (both secret_kind_at (option_at time_at))))))))))

unfoldable pub secret_put_at : Read SecretPut
secret_put_at = made_of secret_put_with secret_put_fields_at
