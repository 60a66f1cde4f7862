use Rattle.std.proofs.Common.{◌≡◌, ◌∙◌, ◌+◌, ℕ, Bool, Option, Some, None, [], ◌∷◌, ◌++◌, cond, length, sym, ap, arith}
use Rattle.std.specs.Prelude.{filter, option_copied}
use Rattle.std.specs.Str.{bytes_eq}
use Rattle.kms_world.specs.LookUp.{container_of}
use Rattle.kms_world.specs.declared.id.Id.{Id}
use Rattle.kms_world.specs.declared.container.ContainerRow.{ContainerRow}
use Rattle.kms_record.specs.ChangeEffect.{consumer_at}
use Rattle.kms_kept.specs.Kept.{has}
use Rattle.kms_store.proofs.ConsumerLaws.{owns, through}
use Rattle.kms_store.proofs.CountLaws.{count_push, counted_few}
use Rattle.kms_store.proofs.counts.Counts.add_consumer.Goals as goal

pub add-requires-clause-most : goal.add-requires-clause-most
add-requires-clause-most c =
    let rows = c.args.rows.now in
    let project = c.in-Some.row.now.project in
    omega (arith, c.requires.counted.consumers.each project, counted_few (through project rows.containers.items) rows.consumers.items, c.few.ensures)

pub returns-in-Some-clause-counted : goal.returns-in-Some-clause-counted
returns-in-Some-clause-counted c =
    let rows = c.args.rows.now in
    let cs = rows.containers.items in
    let ds = rows.consumers.items in
    let d = consumer_at rows.tag c.args.put.now in
    let project = c.in-Some.row.now.project in
    let found : container_of d.container cs ≡ Some c.in-Some.row.now = ap (λ (i : Id). container_of i cs) (sym c.id.ensures) ∙ sym c.container.ensures ∙ ap option_copied c.in-Some.is in
    record {
      secrets = c.requires.counted.secrets;
      containers = c.requires.counted.containers;
      orders = c.requires.counted.orders;
      consumers = record {
        ascend = c.add.ensures.ascend;
        each = λ p.
            let own : through p cs d ≡ bytes_eq p project = ap (λ (o : Option ContainerRow). has o (owns p)) found in
            c.add.ensures.numbers p ∙ ap (λ (n : ℕ). n + cond (bytes_eq p project) 1 0) (c.requires.counted.consumers.each p)
            ∙ ap (λ (b : Bool). length (filter (through p cs) ds) + cond b 1 0) (sym own) ∙ sym (count_push (through p cs) ds d);
      };
    }

pub returns-in_default-clause-counted : goal.returns-in_default-clause-counted
returns-in_default-clause-counted c =
    let rows = c.args.rows.now in
    let cs = rows.containers.items in
    let ds = rows.consumers.items in
    let d = consumer_at rows.tag c.args.put.now in
    let missing : container_of d.container cs ≡ None = ap (λ (i : Id). container_of i cs) (sym c.id.ensures) ∙ sym c.container.ensures ∙ ap option_copied c.in_default.is in
    record {
      secrets = c.requires.counted.secrets;
      containers = c.requires.counted.containers;
      orders = c.requires.counted.orders;
      consumers = record {
        ascend = c.requires.counted.consumers.ascend;
        each = λ p.
            let own : through p cs d ≡ has None (owns p) = ap (λ (o : Option ContainerRow). has o (owns p)) missing in
            let more : length (filter (through p cs) (ds ++ d ∷ [])) ≡ length (filter (through p cs) ds) + 0 = count_push (through p cs) ds d ∙ ap (λ (b : Bool). length (filter (through p cs) ds) + cond b 1 0) own in
            omega (arith, c.requires.counted.consumers.each p, more);
      };
    }
