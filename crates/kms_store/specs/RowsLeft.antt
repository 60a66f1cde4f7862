-- What is still to be given of a snapshot, as changes.
use Rattle.std.specs.Prelude.{List, ◌++◌, map}
use Rattle.kms_record.specs.declared.change.Change.{Change}
use Rattle.kms_record.specs.declared.change.Change.TheVariants.{KeyAdded, ContainerPut, ConsumerAdded, AclPut, OrderPut, QuotaPut}
use Rattle.kms_record.specs.Base.{container_put_of, consumer_added_of, acl_put_of, order_put_of, quota_put_of}
use Rattle.kms_store.specs.SecretsLeft.{secrets_left}
use Rattle.kms_store.specs.declared.rows_left.RowsLeft.{RowsLeft}

-- the changes of the rows that are left, in a snapshot's order
abbrev pub changes_left : RowsLeft → List Change
changes_left r =
    map (λ key. KeyAdded key) r.keys.now
    ++ secrets_left r.secrets
    ++ map (λ row. ContainerPut (container_put_of row)) r.containers.now
    ++ map (λ row. ConsumerAdded (consumer_added_of row)) r.consumers.now
    ++ map (λ row. AclPut (acl_put_of row)) r.acls.now
    ++ map (λ row. OrderPut (order_put_of row)) r.orders.now
    ++ map (λ row. QuotaPut (quota_put_of row)) r.quotas.now
