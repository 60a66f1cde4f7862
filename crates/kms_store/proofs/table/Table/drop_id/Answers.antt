use Rattle.std.proofs.Common.{Bool, List, map, sym, ap, arith, ◌∙◌}
use Rattle.std.specs.List.{remove}
use Rattle.kms_world.specs.Id.{is_id}
use Rattle.kms_world.specs.declared.id.Id.{Id}
use Rattle.kms_store.specs.Table.{Tabular}
use Rattle.kms_store.proofs.TableLaws.{find_nowhere, dropped_there, dropped_nowhere, map_remove}
use Rattle.kms_store.proofs.table.Table.drop_id.Goals as goal

pub invariant_of-self : goal.invariant_of-self
invariant_of-self g c =
    let id_of = g.R.Row.id_of in
    let at = c.in-Some.at in
    record {
      same = c.remove.ensures.items ∙ ap (λ (ids : List Id). remove ids at) c.self.invariant.same ∙ map_remove id_of c.self.inside.rows.items at ∙ ap (map id_of) (sym c.remove-in-Some.ensures.items);
      ids_fit = omega (arith, c.self.invariant.ids_fit, c.remove.ensures.len, c.remove.ensures.capacity);
      rows_fit = omega (arith, c.self.invariant.rows_fit, c.remove-in-Some.ensures.len, c.remove-in-Some.ensures.capacity);
    }

pub returns-in-Some-clause-items : goal.returns-in-Some-clause-items
returns-in-Some-clause-items g c =
    let at = c.in-Some.at in
    c.remove-in-Some.ensures.items ∙ ap (λ (t : Tabular g.row.R.Denot). remove t.items at) c.self.view_is
    ∙ sym (dropped_there g.R.Row.id_of c.args.id c.remove-in-Some.result c.args.self.now.items at c.requires.rises (sym c.find_at.ensures ∙ c.in-Some.is))

pub returns-in_default-clause-items : goal.returns-in_default-clause-items
returns-in_default-clause-items g c =
    let test : g.row.R.Denot → Bool = λ r. is_id c.args.id (g.R.Row.id_of r) in
    sym (dropped_nowhere test c.args.self.now.items (find_nowhere test c.args.self.now.items (sym c.find_at.ensures ∙ c.in_default.is)))
