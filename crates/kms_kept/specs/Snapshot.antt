-- The snapshot of what is kept: a list of changes that lead to it. They stand in one order: keys by project and number; each
-- secret by creation, then its payload and its metadata, where it has them; containers; consumers; access lists; orders;
-- quotas.
use Rattle.std.specs.Prelude.{ℕ, List, [], ◌∷◌, ◌++◌, Option, Some, None, map, option_map}
use Rattle.std.specs.List.{flat_map}
use Rattle.kms_world.specs.declared.payload.Payload.{Payload}
use Rattle.kms_world.specs.declared.secret.SecretRow.{SecretRow}
use Rattle.kms_record.specs.declared.change.Change.{Change}
use Rattle.kms_record.specs.declared.change.Change.TheVariants.{KeyAdded, SecretPut, PayloadPut, MetadataPut, ContainerPut, ConsumerAdded, AclPut, OrderPut, QuotaPut}
use Rattle.kms_record.specs.SecretPut.{put_of}
use Rattle.kms_record.specs.Base.{count_of, payload_put_of, metadata_put_of, container_put_of, consumer_added_of, acl_put_of, order_put_of, quota_put_of}
use Rattle.kms_record.specs.Grammar.{change_bytes}
use Rattle.kms_kept.specs.Kept.{Kept}

-- a payload of the row: its bytes are the number of its key and, after that, its token
abbrev pub token_changes : SecretRow → Payload → (sealed : List ℕ) → List Change
token_changes row payload [] = []
token_changes row payload (number ∷ token) = PayloadPut (payload_put_of row number (record payload { bytes = token })) ∷ []

abbrev pub payload_changes : SecretRow → Option Payload → List Change
payload_changes row None = []
payload_changes row (Some payload) = token_changes row payload payload.bytes

abbrev pub metadata_changes : SecretRow → List (List ℕ × List ℕ) → List Change
metadata_changes row [] = []
metadata_changes row (pair ∷ pairs) = MetadataPut (metadata_put_of row) ∷ []

-- what puts a secret, with its payload and its metadata
abbrev pub secret_changes : SecretRow → List Change
secret_changes row = SecretPut (put_of (count_of row.id) row) ∷ payload_changes row row.payload ++ metadata_changes row row.metadata

abbrev pub snapshot_of : Kept → List Change
snapshot_of kept =
    map (λ key. KeyAdded key) kept.keys
    ++ flat_map secret_changes kept.state.secrets
    ++ map (λ row. ContainerPut (container_put_of row)) kept.state.containers
    ++ map (λ row. ConsumerAdded (consumer_added_of row)) kept.state.consumers
    ++ map (λ row. AclPut (acl_put_of row)) kept.state.acls
    ++ map (λ row. OrderPut (order_put_of row)) kept.state.orders
    ++ map (λ row. QuotaPut (quota_put_of row)) kept.state.quotas

-- the same, spelled row by row
abbrev pub spelled_rows : Kept → List ℕ
spelled_rows kept =
    flat_map (λ key. change_bytes (KeyAdded key)) kept.keys
    ++ flat_map (λ row. flat_map change_bytes (secret_changes row)) kept.state.secrets
    ++ flat_map (λ row. change_bytes (ContainerPut (container_put_of row))) kept.state.containers
    ++ flat_map (λ row. change_bytes (ConsumerAdded (consumer_added_of row))) kept.state.consumers
    ++ flat_map (λ row. change_bytes (AclPut (acl_put_of row))) kept.state.acls
    ++ flat_map (λ row. change_bytes (OrderPut (order_put_of row))) kept.state.orders
    ++ flat_map (λ row. change_bytes (QuotaPut (quota_put_of row))) kept.state.quotas

abbrev pub sealed : (number : ℕ) → Payload → Payload
sealed number payload = record payload { bytes = number ∷ payload.bytes }

-- a row whose payload's bytes are a token, as it is kept: the number of its key stands before the token
abbrev pub sealed_row : (number : ℕ) → SecretRow → SecretRow
sealed_row number row = record row { payload = option_map (sealed number) row.payload }
