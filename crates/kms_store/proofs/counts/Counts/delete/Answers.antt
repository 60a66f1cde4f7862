use Rattle.std.proofs.Common.{◌∙◌, sym, subst}
use Rattle.kms_world.specs.Effect.{after_effect}
use Rattle.kms_world.specs.Effect as effects
use Rattle.kms_world.specs.Id.{is_id}
use Rattle.kms_world.specs.declared.id.Id.{Id}
use Rattle.kms_store.specs.Counts.{AreCounted}
use Rattle.kms_store.specs.Rows.{kept_in}
use Rattle.kms_store.specs.declared.counts.Counts.{Counts}
use Rattle.kms_store.proofs.ConsumerLaws.{left_through, gone_through}
use Rattle.kms_store.proofs.counts.Counts.delete.Goals as goal

pub returns-clause-counted : goal.returns-clause-counted
returns-clause-counted c =
    let rows = c.args.rows.now in
    let id = c.id-id.result in
    let gone = c.count_on-gone.ensures in
    let new : Counts = record { secrets = c.count_drop.new.entries; containers = c.count_drop-2.new.entries; orders = c.count_drop-3.new.entries; consumers = c.take_consumers.new.entries } in
    subst (λ (i : Id). AreCounted new (after_effect (effects.Deleted i) (kept_in rows).state)) c.id-id.ensures (record {
      secrets = c.count_drop.ensures.tally;
      containers = c.count_drop-2.ensures.tally;
      orders = c.count_drop-3.ensures.tally;
      consumers = record {
        ascend = c.take_consumers.ensures.ascend;
        each = λ p.
            left_through id rows.containers.items rows.consumers.items c.args.self.now.consumers.items c.requires.counted.consumers.each (λ d. is_id id d.container) c.count_on-gone.result c.take_consumers.new.entries.items (λ d t. t) gone c.take_consumers.ensures.rows p
            ∙ sym (gone_through p id rows.containers.items rows.consumers.items);
      };
    })
