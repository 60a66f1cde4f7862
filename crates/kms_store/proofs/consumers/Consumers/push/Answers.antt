use Rattle.std.proofs.Common.{◌∙◌, ◌+◌, ◌-◌, ◌<◌, ◌^◌, ℕ, cond, length, ap, subst, sym, arith}
use Rattle.kms_world.specs.Id.{is_id}
use Rattle.kms_world.specs.declared.container.ConsumerRow.{ConsumerRow}
use Rattle.kms_store.specs.Consumers.{count_on}
use Rattle.kms_store.specs.Table.{Tabular}
use Rattle.kms_store.proofs.CountLaws.{count_push, counted_few}
use Rattle.kms_store.proofs.consumers.Consumers.push.Goals as goal

pub add-requires-clause-most : goal.add-requires-clause-most
add-requires-clause-most c =
    let id = c.args.row.container in
    let rows = c.self.inside.rows.items in
    let few : length rows < 2 ^ 64 - 1 = subst (λ (t : Tabular ConsumerRow). length t.items < 2 ^ 64 - 1) (sym c.self.view_is) c.few.ensures in
    omega (arith, c.self.invariant.each id, counted_few (λ (d : ConsumerRow). is_id id d.container) rows, few)

pub invariant_of-self : goal.invariant_of-self
invariant_of-self c =
    let row = c.args.row in
    let rows = c.self.inside.rows.items in
    record {
      ascend = c.add.ensures.ascend;
      each = λ id.
          c.add.ensures.numbers id ∙ ap (λ (n : ℕ). n + cond (is_id id row.container) 1 0) (c.self.invariant.each id)
          ∙ sym (count_push (λ (d : ConsumerRow). is_id id d.container) rows row) ∙ ap (count_on id) (sym c.push_reserved.ensures.items);
      on_fit = omega (arith, c.self.invariant.on_fit, c.add.ensures.len, c.add.ensures.capacity, c.requires.space, ap (λ (t : Tabular ConsumerRow). t.spare) c.self.view_is);
      rows_fit = omega (arith, c.self.invariant.rows_fit, c.push_reserved.ensures.len, c.push_reserved.ensures.capacity, c.requires.space, ap (λ (t : Tabular ConsumerRow). t.spare) c.self.view_is);
    }
