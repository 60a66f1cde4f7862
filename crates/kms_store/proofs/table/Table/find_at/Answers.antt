use Rattle.std.proofs.Common.{ap, ◌∙◌}
use Rattle.std.specs.List.{position}
use Rattle.kms_world.specs.Id.{is_id}
use Rattle.kms_store.specs.Table.{Tabular}
use Rattle.kms_store.proofs.TableLaws.{position_map}
use Rattle.kms_store.proofs.table.Table.find_at.Goals as goal

pub returns : goal.returns
returns g c =
    let id_of = g.R.Row.id_of in
    c.place_of.ensures ∙ ap (position (is_id c.args.id)) (c.deref.ensures.value ∙ c.self.invariant.same) ∙ position_map id_of (is_id c.args.id) c.self.inside.rows.items
    ∙ ap (λ (t : Tabular g.row.R.Denot). position (λ r. is_id c.args.id (id_of r)) t.items) c.self.view_is
