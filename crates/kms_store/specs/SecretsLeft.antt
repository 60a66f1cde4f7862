-- What is still to be given of a snapshot's secrets, as changes.
use Rattle.std.specs.Prelude.{List, [], ◌++◌, Option, Some, None, option_copied}
use Rattle.std.specs.List.{flat_map}
use Rattle.kms_world.specs.declared.secret.SecretRow.{SecretRow}
use Rattle.kms_record.specs.declared.change.Change.{Change}
use Rattle.kms_kept.specs.Snapshot.{payload_changes, metadata_changes, secret_changes}
use Rattle.kms_store.specs.declared.secrets_left.SecretsLeft.{SecretsLeft}

-- the change of the payload of a secret whose attributes were given
abbrev pub payload_left : Option SecretRow → List Change
payload_left None = []
payload_left (Some row) = payload_changes row row.payload

abbrev pub metadata_left : Option SecretRow → List Change
metadata_left None = []
metadata_left (Some row) = metadata_changes row row.metadata

abbrev pub secrets_left : SecretsLeft → List Change
secrets_left r = payload_left (option_copied r.payload) ++ (metadata_left (option_copied r.metadata) ++ flat_map secret_changes r.rows.now)
