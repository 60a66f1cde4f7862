-- A snapshot leads to what is kept.
use Rattle.std.proofs.Common.{◌≡◌, [], ◌++◌, map, Some}
use Rattle.std.specs.List.{flat_map}
use Rattle.kms_record.specs.declared.change.Change.TheVariants.{KeyAdded, ContainerPut, ConsumerAdded, AclPut, OrderPut, QuotaPut}
use Rattle.kms_record.specs.Base.{container_put_of, consumer_added_of, acl_put_of, order_put_of, quota_put_of}
use Rattle.kms_kept.specs.Kept.{Kept, Base, after_changes, kept_first}
use Rattle.kms_kept.specs.Snapshot.{secret_changes, snapshot_of}
use Rattle.kms_kept.specs.Sound.{IsSound}
use Rattle.kms_kept.proofs.SnapshotKeys.{with_keys, keys_built}
use Rattle.kms_kept.proofs.SnapshotParts.{two_parts}
use Rattle.kms_kept.proofs.SnapshotRows.{with_containers, with_consumers, with_acls, with_orders, containers_built, consumers_built, acls_built, orders_built, quotas_built}
use Rattle.kms_kept.proofs.SnapshotSecrets.{with_secrets, secrets_built}

pub snapshot_leads : (kept : Kept) → IsSound kept → after_changes Base (snapshot_of kept) (kept_first kept.state.tag kept.state.ids) ≡ Some kept
snapshot_leads kept s =
    let state = kept.state in
    let keys = map (λ key. KeyAdded key) kept.keys in
    let secrets = flat_map secret_changes state.secrets in
    let containers = map (λ row. ContainerPut (container_put_of row)) state.containers in
    let consumers = map (λ row. ConsumerAdded (consumer_added_of row)) state.consumers in
    let acls = map (λ row. AclPut (acl_put_of row)) state.acls in
    let orders = map (λ row. OrderPut (order_put_of row)) state.orders in
    let quotas = map (λ row. QuotaPut (quota_put_of row)) state.quotas in
    let one = two_parts keys secrets (with_keys kept []) (with_keys kept kept.keys) (with_secrets kept state.secrets) (keys_built kept s.keys) (secrets_built kept s.rising.secrets s.grammar.secrets s.sealed) in
    let two = two_parts (keys ++ secrets) containers (with_keys kept []) (with_secrets kept state.secrets) (with_containers kept state.containers) one (containers_built kept s.rising.containers s.apart.containers s.grammar.containers) in
    let three = two_parts (keys ++ secrets ++ containers) consumers (with_keys kept []) (with_containers kept state.containers) (with_consumers kept state.consumers) two (consumers_built kept s.joined.consumers s.once.consumers s.grammar.consumers) in
    let four = two_parts (keys ++ secrets ++ containers ++ consumers) acls (with_keys kept []) (with_consumers kept state.consumers) (with_acls kept state.acls) three (acls_built kept s.joined.acls s.once.acls s.grammar.acls) in
    let five = two_parts (keys ++ secrets ++ containers ++ consumers ++ acls) orders (with_keys kept []) (with_acls kept state.acls) (with_orders kept state.orders) four (orders_built kept s.rising.orders s.apart.orders s.apart.orders_too s.named s.orders s.grammar.orders) in
    two_parts (keys ++ secrets ++ containers ++ consumers ++ acls ++ orders) quotas (with_keys kept []) (with_orders kept state.orders) kept five (quotas_built kept s.once.quotas s.grammar.quotas)
