-- How many bytes a change is spelled with at most.
use Rattle.std.specs.Prelude.{ℕ}
use Rattle.kms_record.specs.declared.change.Change.{Change}
use Rattle.kms_record.specs.declared.change.Change.TheVariants.{KeyAdded, KeyRewrapped, TokenReplaced, KeyDropped, SecretPut, PayloadPut, MetadataPut, ContainerPut, ConsumerAdded, ConsumerDropped, AclPut, AclDropped, OrderPut, QuotaPut, Deleted}

abbrev pub most_bytes : Change → ℕ
most_bytes (KeyAdded put) = 211
most_bytes (KeyRewrapped put) = 211
most_bytes (TokenReplaced put) = 26781
most_bytes (KeyDropped put) = 71
most_bytes (SecretPut put) = 944
most_bytes (PayloadPut put) = 26790
most_bytes (MetadataPut put) = 51418
most_bytes (ContainerPut put) = 27017
most_bytes (ConsumerAdded put) = 531
most_bytes (ConsumerDropped put) = 523
most_bytes (AclPut put) = 6627
most_bytes (AclDropped id) = 9
most_bytes (OrderPut put) = 950
most_bytes (QuotaPut put) = 88
most_bytes (Deleted id) = 9
