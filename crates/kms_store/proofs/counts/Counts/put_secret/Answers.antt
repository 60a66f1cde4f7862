use Rattle.std.proofs.Common.{refl}
use Rattle.kms_store.proofs.counts.Counts.put_secret.Goals as goal

pub returns-clause-counted : goal.returns-clause-counted
returns-clause-counted c = record {
  secrets = c.count_new.ensures.tally _ refl;
  containers = c.requires.counted.containers;
  orders = c.requires.counted.orders;
  consumers = c.requires.counted.consumers;
}
