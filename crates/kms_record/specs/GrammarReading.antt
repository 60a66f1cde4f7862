-- How changes, steps, records and snapshots are read.
use Rattle.std.specs.Prelude.{ℕ, List, [], ◌∷◌, length, Option, Some, None, ◌==◌, if◌then◌else◌}
use Rattle.std.specs.Int.{w16, w32, w64}
use Rattle.kms_record.specs.declared.change.Change.{Change}
use Rattle.kms_record.specs.declared.change.Change.TheVariants.{KeyAdded, KeyRewrapped, TokenReplaced, KeyDropped, SecretPut, PayloadPut, MetadataPut, ContainerPut, ConsumerAdded, ConsumerDropped, AclPut, AclDropped, OrderPut, QuotaPut, Deleted}
use Rattle.kms_record.specs.Reading.{◌>>=◌, Read, number_at, id_at, alternatives_at, made_of, many}
use Rattle.kms_record.specs.KeyReading.{wrapped_key_at, key_dropped_at}
use Rattle.kms_record.specs.PayloadReading.{token_replaced_at, payload_put_at}
use Rattle.kms_record.specs.SecretPutReading.{secret_put_at}
use Rattle.kms_record.specs.MetadataReading.{metadata_put_at}
use Rattle.kms_record.specs.ContainerReading.{container_put_at}
use Rattle.kms_record.specs.ConsumerReading.{consumer_added_at, consumer_dropped_at}
use Rattle.kms_record.specs.AclReading.{acl_put_at}
use Rattle.kms_record.specs.OrderReading.{order_put_at}
use Rattle.kms_record.specs.QuotaReading.{quota_put_at}

-- the kinds of change by their numbers
abbrev pub changes_by_kind : List (ℕ × Read Change)
changes_by_kind =
    (1, made_of (λ put. KeyAdded put) wrapped_key_at)
    ∷ (2, made_of (λ put. KeyRewrapped put) wrapped_key_at)
    ∷ (3, made_of (λ put. TokenReplaced put) token_replaced_at)
    ∷ (4, made_of (λ put. KeyDropped put) key_dropped_at)
    ∷ (5, made_of (λ put. SecretPut put) secret_put_at)
    ∷ (6, made_of (λ put. PayloadPut put) payload_put_at)
    ∷ (7, made_of (λ put. MetadataPut put) metadata_put_at)
    ∷ (8, made_of (λ put. ContainerPut put) container_put_at)
    ∷ (9, made_of (λ put. ConsumerAdded put) consumer_added_at)
    ∷ (10, made_of (λ put. ConsumerDropped put) consumer_dropped_at)
    ∷ (11, made_of (λ put. AclPut put) acl_put_at)
    ∷ (12, made_of (λ id. AclDropped id) id_at)
    ∷ (13, made_of (λ put. OrderPut put) order_put_at)
    ∷ (14, made_of (λ put. QuotaPut put) quota_put_at)
    ∷ (15, made_of (λ id. Deleted id) id_at)
    ∷ []

abbrev pub change_at : Read Change
change_at = alternatives_at changes_by_kind

unfoldable pub step_at : Read (List Change)
step_at bytes = do
  count ← number_at w16 bytes
  if count.0 == 0 then None else many change_at count.0 count.1

-- the value, where nothing stands after it
abbrev pub alone : {A : Type 0} → Option (A × List ℕ) → Option A
alone {A} read = read >>= λ x. if length x.1 == 0 then Some x.0 else None

unfoldable pub record_of : List ℕ → Option (List (List Change))
record_of bytes = alone (do
  count ← number_at w32 bytes
  if count.0 == 0 then None else many step_at count.0 count.1)

unfoldable pub snapshot_of : List ℕ → Option (List Change)
snapshot_of bytes = alone (do
  count ← number_at w64 bytes
  many change_at count.0 count.1)
