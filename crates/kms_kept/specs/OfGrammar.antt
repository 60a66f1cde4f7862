-- Each row that is kept is one that a change of the grammar puts under the store's tag.
use Rattle.std.specs.Prelude.{◌≡◌, ℕ, List, [], ◌∷◌, IfSome}
use Rattle.std.specs.List.{AllByRecursion}
use Rattle.kms_world.specs.Id.{id_at}
use Rattle.kms_world.specs.declared.acl.AclRow.{AclRow}
use Rattle.kms_world.specs.declared.container.ContainerRow.{ContainerRow}
use Rattle.kms_world.specs.declared.container.ConsumerRow.{ConsumerRow}
use Rattle.kms_world.specs.declared.order.OrderRow.{OrderRow}
use Rattle.kms_world.specs.declared.payload.Payload.{Payload}
use Rattle.kms_world.specs.declared.quota.QuotaRow.{QuotaRow}
use Rattle.kms_world.specs.declared.secret.SecretRow.{SecretRow}
use Rattle.kms_record.specs.declared.change.Change.TheVariants.{KeyAdded, SecretPut, PayloadPut, MetadataPut, ContainerPut, ConsumerAdded, AclPut, OrderPut, QuotaPut}
use Rattle.kms_record.specs.declared.key.WrappedKey.{WrappedKey}
use Rattle.kms_record.specs.Base.{count_of, payload_put_of, metadata_put_of, container_put_of, consumer_added_of, acl_put_of, order_put_of, quota_limits_of, quota_put_of}
use Rattle.kms_record.specs.ChangeEffect.{container_at, consumer_at, acl_at, order_at, quota_at}
use Rattle.kms_record.specs.Grammar.{IsChange}
use Rattle.kms_record.specs.SecretPut.{put_of}
use Rattle.kms_kept.specs.Kept.{Kept}

abbrev pub IsKey : WrappedKey → Type 0
IsKey key = IsChange (KeyAdded key)

-- the bytes are the number of a key and, after that, a token
abbrev pub IsSealedToken : SecretRow → Payload → (sealed : List ℕ) → Type 0
IsSealedToken row payload [] = ⊥
IsSealedToken row payload (number ∷ token) = IsChange (PayloadPut (payload_put_of row number (record payload { bytes = token })))

pub record IsSecret (tag : ℕ) (row : SecretRow) : Type 0 where
  pub id : id_at tag (count_of row.id) ≡ row.id
  pub attributes : IsChange (SecretPut (put_of (count_of row.id) row))
  pub payload : IfSome row.payload (λ payload. IsSealedToken row payload payload.bytes)
  pub metadata : IsChange (MetadataPut (metadata_put_of row))

pub record IsContainer (tag : ℕ) (row : ContainerRow) : Type 0 where
  pub put : container_at tag (container_put_of row) ≡ row
  pub grammar : IsChange (ContainerPut (container_put_of row))

pub record IsConsumer (tag : ℕ) (row : ConsumerRow) : Type 0 where
  pub put : consumer_at tag (consumer_added_of row) ≡ row
  pub grammar : IsChange (ConsumerAdded (consumer_added_of row))

pub record IsAcl (tag : ℕ) (row : AclRow) : Type 0 where
  pub put : acl_at tag (acl_put_of row) ≡ row
  pub grammar : IsChange (AclPut (acl_put_of row))

pub record IsOrder (tag : ℕ) (row : OrderRow) : Type 0 where
  pub put : order_at tag (order_put_of row) ≡ row
  pub grammar : IsChange (OrderPut (order_put_of row))

pub record IsQuota (row : QuotaRow) : Type 0 where
  pub put : quota_at row.project (quota_limits_of row) ≡ row
  pub grammar : IsChange (QuotaPut (quota_put_of row))

pub record IsOfGrammar (kept : Kept) : Type 0 where
  pub keys : AllByRecursion IsKey kept.keys
  pub secrets : AllByRecursion (IsSecret kept.state.tag) kept.state.secrets
  pub containers : AllByRecursion (IsContainer kept.state.tag) kept.state.containers
  pub consumers : AllByRecursion (IsConsumer kept.state.tag) kept.state.consumers
  pub acls : AllByRecursion (IsAcl kept.state.tag) kept.state.acls
  pub orders : AllByRecursion (IsOrder kept.state.tag) kept.state.orders
  pub quotas : AllByRecursion IsQuota kept.state.quotas
