use Rattle.std.proofs.Common.{sym, arith}
use Rattle.kms_world.specs.Effect.{is_consumer}
use Rattle.kms_world.specs.Id.{is_id}
use Rattle.kms_world.specs.declared.container.ConsumerRow.{ConsumerRow}
use Rattle.kms_store.proofs.ConsumerLaws.{fewer_pass, on_container}
use Rattle.kms_store.proofs.ConsumersLaws.{none_any}
use Rattle.kms_store.proofs.consumers.Consumers.has.Goals as goal

pub returns-then-count_on-eq0 : goal.returns-then-count_on-eq0
returns-then-count_on-eq0 c =
    let rows = c.args.self.now.items in
    let id = c.args.container in
    let test = is_consumer id c.args.name.now c.args.url.now in
    let few = fewer_pass test (λ (d : ConsumerRow). is_id id d.container) (on_container id c.args.name.now c.args.url.now) rows in
    sym (none_any test rows (omega (arith, few, c.count_on.ensures, c.if-count_on-eq0.true)))
