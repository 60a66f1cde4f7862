use Rattle.std.proofs.Common.{◌≤◌, ℕ, Bool, sym, subst}
use Rattle.std.specs.Prelude.{length, filter}
use Rattle.kms_world.specs.Effect.{after_effect, is_consumer}
use Rattle.kms_world.specs.Effect as effects
use Rattle.kms_world.specs.Id.{is_id}
use Rattle.kms_world.specs.declared.id.Id.{Id}
use Rattle.kms_world.specs.declared.container.ConsumerRow.{ConsumerRow}
use Rattle.kms_store.specs.Counts.{AreCounted}
use Rattle.kms_store.specs.Rows.{kept_in}
use Rattle.kms_store.specs.declared.counts.Counts.{Counts}
use Rattle.kms_store.proofs.ConsumerLaws.{left_through, fewer_pass, on_container}
use Rattle.kms_store.proofs.counts.Counts.drop_consumer.Goals as goal

pub take_consumers-requires-clause-gone : goal.take_consumers-requires-clause-gone
take_consumers-requires-clause-gone c =
    let rows = c.args.rows.now in
    let id = c.id-id.result in
    let put = c.args.put.now in
    let gone = c.count_like-gone.ensures in
    let on : ConsumerRow → Bool = λ d. is_id id d.container in
    subst (λ (n : ℕ). n ≤ length (filter on rows.consumers.items)) (sym gone) (fewer_pass (is_consumer id put.name put.url) on (on_container id put.name put.url) rows.consumers.items)

pub returns-clause-counted : goal.returns-clause-counted
returns-clause-counted c =
    let rows = c.args.rows.now in
    let id = c.id-id.result in
    let put = c.args.put.now in
    let gone = c.count_like-gone.ensures in
    let new : Counts = record c.args.self.now { consumers = c.take_consumers.new.entries } in
    subst (λ (i : Id). AreCounted new (after_effect (effects.ConsumerDropped i put.name put.url) (kept_in rows).state)) c.id-id.ensures (record {
      secrets = c.requires.counted.secrets;
      containers = c.requires.counted.containers;
      orders = c.requires.counted.orders;
      consumers = record {
        ascend = c.take_consumers.ensures.ascend;
        each = left_through id rows.containers.items rows.consumers.items c.args.self.now.consumers.items c.requires.counted.consumers.each (is_consumer id put.name put.url) c.count_like-gone.result c.take_consumers.new.entries.items (on_container id put.name put.url) gone c.take_consumers.ensures.rows;
      };
    })
