use Rattle.std.proofs.Common.{◌≡◌, ◌∙◌, Bool, length, ap, subst, sym, arith}
use Rattle.std.specs.Prelude.{filter}
use Rattle.kms_world.specs.Id.{is_id}
use Rattle.kms_world.specs.declared.container.ConsumerRow.{ConsumerRow}
use Rattle.kms_store.specs.Consumers.{count_on}
use Rattle.kms_store.specs.Table.{Tabular}
use Rattle.kms_store.proofs.ConsumerLaws.{fewer_pass}
use Rattle.kms_store.proofs.ConsumersLaws.{none_dropped, counts_left}
use Rattle.kms_store.proofs.consumers.Consumers.drop_on.Goals as goal

pub take-requires-clause-least : goal.take-requires-clause-least
take-requires-clause-least c =
    let id = c.args.container in
    let test : ConsumerRow → Bool = λ (d : ConsumerRow). is_id id d.container in
    let rows = c.self.inside.rows.items in
    let gone : c.count_on-gone.result ≡ length (filter test rows) = subst (λ (t : Tabular ConsumerRow). c.count_on-gone.result ≡ length (filter test t.items)) (sym c.self.view_is) c.count_on-gone.ensures in
    omega (arith, gone, c.self.invariant.each id, fewer_pass test (λ (d : ConsumerRow). is_id id d.container) (λ d t. t) rows)

pub invariant_of-self : goal.invariant_of-self
invariant_of-self c =
    let id = c.args.container in
    let test : ConsumerRow → Bool = λ (d : ConsumerRow). is_id id d.container in
    let rows = c.self.inside.rows.items in
    let gone : c.count_on-gone.result ≡ length (filter test rows) = subst (λ (t : Tabular ConsumerRow). c.count_on-gone.result ≡ length (filter test t.items)) (sym c.self.view_is) c.count_on-gone.ensures in
    record {
      ascend = c.take.ensures.ascend;
      each = λ other.
          counts_left id test (λ d t. t) rows c.count_on-gone.result c.self.inside.on.items c.take.new.entries.items gone c.self.invariant.each c.take.ensures.numbers other
          ∙ ap (count_on other) (sym c.drop_consumers.ensures.items);
      on_fit = omega (arith, c.self.invariant.on_fit, c.take.ensures.len, c.take.ensures.capacity);
      rows_fit = omega (arith, c.self.invariant.rows_fit, c.drop_consumers.ensures.len, c.drop_consumers.ensures.capacity);
    }

pub returns-else-gone-gt0-clause-items : goal.returns-else-gone-gt0-clause-items
returns-else-gone-gt0-clause-items c =
    let id = c.args.container in
    let test : ConsumerRow → Bool = λ (d : ConsumerRow). is_id id d.container in
    sym (none_dropped test c.args.self.now.items (sym c.count_on-gone.ensures ∙ omega (arith, c.if-gone-gt0.false)))
