-- Steps and snapshots as bytes. Each has one spelling, and nothing stands after it.
use Rattle.std.specs.Prelude.{◌≡◌, ℕ, ◌<◌, ◌≤◌, ◌^◌, List, ◌∷◌, ◌++◌, length}
use Rattle.std.specs.List.{flat_map, AllByRecursion}
use Rattle.kms_record.specs.declared.change.Change.{Change}
use Rattle.kms_record.specs.declared.change.Change.TheVariants.{KeyAdded, KeyRewrapped, TokenReplaced, KeyDropped, SecretPut, PayloadPut, MetadataPut, ContainerPut, ConsumerAdded, ConsumerDropped, AclPut, AclDropped, OrderPut, QuotaPut, Deleted}
use Rattle.kms_record.specs.Fields.{u16_bytes, u32_bytes, u64_bytes}
use Rattle.kms_record.specs.Key.{wrapped_key_bytes, IsWrappedKeyInRange, IsWrappedKeyTyped, key_dropped_bytes, IsKeyDroppedInRange, IsKeyDroppedTyped}
use Rattle.kms_record.specs.Payload.{token_replaced_bytes, IsTokenReplacedInRange, IsTokenReplacedTyped, payload_put_bytes, IsPayloadPutInRange, IsPayloadPutTyped}
use Rattle.kms_record.specs.SecretPut.{secret_put_bytes, IsInRange, IsTextual}
use Rattle.kms_record.specs.Metadata.{metadata_put_bytes, IsMetadataPutInRange, IsMetadataPutTyped}
use Rattle.kms_record.specs.Container.{container_put_bytes, IsContainerPutInRange, IsContainerPutTyped}
use Rattle.kms_record.specs.Consumer.{consumer_added_bytes, IsConsumerAddedInRange, IsConsumerAddedTyped, consumer_dropped_bytes, IsConsumerDroppedInRange, IsConsumerDroppedTyped}
use Rattle.kms_record.specs.Acl.{acl_put_bytes, IsAclPutInRange, IsAclPutTyped}
use Rattle.kms_record.specs.Order.{order_put_bytes, IsOrderPutInRange, IsOrderPutTyped}
use Rattle.kms_record.specs.Quota.{quota_put_bytes, IsQuotaPutInRange, IsQuotaPutTyped}

-- a change: the byte of its kind, and its fields
abbrev pub change_bytes : Change → List ℕ
change_bytes (KeyAdded put) = 1 ∷ wrapped_key_bytes put
change_bytes (KeyRewrapped put) = 2 ∷ wrapped_key_bytes put
change_bytes (TokenReplaced put) = 3 ∷ token_replaced_bytes put
change_bytes (KeyDropped put) = 4 ∷ key_dropped_bytes put
change_bytes (SecretPut put) = 5 ∷ secret_put_bytes put
change_bytes (PayloadPut put) = 6 ∷ payload_put_bytes put
change_bytes (MetadataPut put) = 7 ∷ metadata_put_bytes put
change_bytes (ContainerPut put) = 8 ∷ container_put_bytes put
change_bytes (ConsumerAdded put) = 9 ∷ consumer_added_bytes put
change_bytes (ConsumerDropped put) = 10 ∷ consumer_dropped_bytes put
change_bytes (AclPut put) = 11 ∷ acl_put_bytes put
change_bytes (AclDropped id) = 12 ∷ u64_bytes id
change_bytes (OrderPut put) = 13 ∷ order_put_bytes put
change_bytes (QuotaPut put) = 14 ∷ quota_put_bytes put
change_bytes (Deleted id) = 15 ∷ u64_bytes id

-- its numbers and lengths are in their ranges
abbrev pub IsChangeInRange : Change → Type 0
IsChangeInRange (KeyAdded put) = IsWrappedKeyInRange put
IsChangeInRange (KeyRewrapped put) = IsWrappedKeyInRange put
IsChangeInRange (TokenReplaced put) = IsTokenReplacedInRange put
IsChangeInRange (KeyDropped put) = IsKeyDroppedInRange put
IsChangeInRange (SecretPut put) = IsInRange put
IsChangeInRange (PayloadPut put) = IsPayloadPutInRange put
IsChangeInRange (MetadataPut put) = IsMetadataPutInRange put
IsChangeInRange (ContainerPut put) = IsContainerPutInRange put
IsChangeInRange (ConsumerAdded put) = IsConsumerAddedInRange put
IsChangeInRange (ConsumerDropped put) = IsConsumerDroppedInRange put
IsChangeInRange (AclPut put) = IsAclPutInRange put
IsChangeInRange (AclDropped id) = id < 2 ^ 62
IsChangeInRange (OrderPut put) = IsOrderPutInRange put
IsChangeInRange (QuotaPut put) = IsQuotaPutInRange put
IsChangeInRange (Deleted id) = id < 2 ^ 62

-- and it has what its types say, as in every value of the program
abbrev pub IsChange : Change → Type 0
IsChange (KeyAdded put) = IsWrappedKeyInRange put × IsWrappedKeyTyped put
IsChange (KeyRewrapped put) = IsWrappedKeyInRange put × IsWrappedKeyTyped put
IsChange (TokenReplaced put) = IsTokenReplacedInRange put × IsTokenReplacedTyped put
IsChange (KeyDropped put) = IsKeyDroppedInRange put × IsKeyDroppedTyped put
IsChange (SecretPut put) = IsInRange put × IsTextual put
IsChange (PayloadPut put) = IsPayloadPutInRange put × IsPayloadPutTyped put
IsChange (MetadataPut put) = IsMetadataPutInRange put × IsMetadataPutTyped put
IsChange (ContainerPut put) = IsContainerPutInRange put × IsContainerPutTyped put
IsChange (ConsumerAdded put) = IsConsumerAddedInRange put × IsConsumerAddedTyped put
IsChange (ConsumerDropped put) = IsConsumerDroppedInRange put × IsConsumerDroppedTyped put
IsChange (AclPut put) = IsAclPutInRange put × IsAclPutTyped put
IsChange (AclDropped id) = id < 2 ^ 62
IsChange (OrderPut put) = IsOrderPutInRange put × IsOrderPutTyped put
IsChange (QuotaPut put) = IsQuotaPutInRange put × IsQuotaPutTyped put
IsChange (Deleted id) = id < 2 ^ 62

-- a step: the number of its changes in two bytes, and the changes
abbrev pub step_bytes : List Change → List ℕ
step_bytes step = u16_bytes (length step) ++ flat_map change_bytes step

pub record IsStepInRange (step : List Change) : Type 0 where
  pub some : 1 ≤ length step
  pub few : length step < 2 ^ 16
  pub each : AllByRecursion IsChangeInRange step

pub record IsStep (step : List Change) : Type 0 where
  pub some : 1 ≤ length step
  pub few : length step < 2 ^ 16
  pub each : AllByRecursion IsChange step

-- a record: the number of its steps in four bytes, and the steps
abbrev pub record_bytes : List (List Change) → List ℕ
record_bytes steps = u32_bytes (length steps) ++ flat_map step_bytes steps

pub record AreSteps (steps : List (List Change)) : Type 0 where
  pub some : 1 ≤ length steps
  pub few : length steps < 2 ^ 32
  pub each : AllByRecursion IsStep steps

-- a snapshot: the number of its changes in eight bytes, and the changes
abbrev pub snapshot_bytes : List Change → List ℕ
snapshot_bytes changes = u64_bytes (length changes) ++ flat_map change_bytes changes

pub record AreChanges (changes : List Change) : Type 0 where
  pub few : length changes < 2 ^ 64
  pub each : AllByRecursion IsChange changes

-- the bytes are a record of these steps
pub record IsRecord (bytes : List ℕ) (steps : List (List Change)) : Type 0 where
  pub spelled : bytes ≡ record_bytes steps
  pub admitted : AreSteps steps

-- the bytes are a snapshot of these changes
pub record IsSnapshot (bytes : List ℕ) (changes : List Change) : Type 0 where
  pub spelled : bytes ≡ snapshot_bytes changes
  pub admitted : AreChanges changes
