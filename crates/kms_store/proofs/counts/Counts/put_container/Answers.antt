use Rattle.std.proofs.Common.{◌∙◌, refl, sym}
use Rattle.kms_world.specs.LookUp.{container_of}
use Rattle.kms_store.proofs.ConsumerLaws.{put_through}
use Rattle.kms_store.proofs.counts.Counts.put_container.Goals as goal

pub returns-clause-counted : goal.returns-clause-counted
returns-clause-counted c =
    let rows = c.args.rows.now in
    record {
      secrets = c.requires.counted.secrets;
      containers = c.count_put.ensures.tally c.args.row.now refl refl;
      orders = c.requires.counted.orders;
      consumers = record {
        ascend = c.requires.counted.consumers.ascend;
        each = λ p. c.requires.counted.consumers.each p ∙ sym (put_through p c.args.row.now rows.containers.items rows.consumers.items c.requires.joined.consumers (container_of c.args.row.now.id rows.containers.items) refl c.requires.alike);
      };
    }
