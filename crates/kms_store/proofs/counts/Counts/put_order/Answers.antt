use Rattle.std.proofs.Common.{refl, sym}
use Rattle.kms_store.proofs.counts.Counts.put_order.Goals as goal

pub returns-clause-counted : goal.returns-clause-counted
returns-clause-counted c = record {
  secrets = c.requires.counted.secrets;
  containers = c.requires.counted.containers;
  orders = c.count_put.ensures.tally _ (sym c.id.ensures) refl;
  consumers = c.requires.counted.consumers;
}
