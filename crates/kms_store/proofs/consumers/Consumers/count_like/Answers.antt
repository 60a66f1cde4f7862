use Rattle.std.proofs.Common.{arith}
use Rattle.kms_world.specs.Effect.{is_consumer}
use Rattle.kms_world.specs.Id.{is_id}
use Rattle.kms_world.specs.declared.container.ConsumerRow.{ConsumerRow}
use Rattle.kms_store.proofs.ConsumerLaws.{fewer_pass, on_container}
use Rattle.kms_store.proofs.consumers.Consumers.count_like.Goals as goal

pub returns-then-count_on-eq0 : goal.returns-then-count_on-eq0
returns-then-count_on-eq0 c =
    let rows = c.args.self.now.items in
    let id = c.args.container in
    let few = fewer_pass (is_consumer id c.args.name.now c.args.url.now) (λ (d : ConsumerRow). is_id id d.container) (on_container id c.args.name.now c.args.url.now) rows in
    omega (arith, few, c.count_on.ensures, c.if-count_on-eq0.true)
