use Rattle.std.proofs.Common.{Bool, sym, ap, ◌∙◌}
use Rattle.std.specs.List.{position}
use Rattle.kms_world.specs.Id.{is_id}
use Rattle.kms_world.specs.declared.id.Id.{Id}
use Rattle.kms_store.proofs.TableLaws.{find_nowhere, put_last, put_there}
use Rattle.kms_store.proofs.table.Table.put.Goals as goal

pub returns-in-Some-clause-items : goal.returns-in-Some-clause-items
returns-in-Some-clause-items g c =
    let id_of = g.R.Row.id_of in
    let test : g.row.R.Denot → Bool = λ r. is_id (id_of c.args.row) (id_of r) in
    let at = c.find_at.ensures ∙ ap (λ (i : Id). position (λ r. is_id i (id_of r)) c.args.self.now.items) c.id.ensures in
    c.set.ensures.items ∙ sym (put_there test c.args.row c.args.row c.args.self.now.items c.in-Some.at (sym at ∙ c.in-Some.is))

pub returns-in-None-clause-items : goal.returns-in-None-clause-items
returns-in-None-clause-items g c =
    let id_of = g.R.Row.id_of in
    let test : g.row.R.Denot → Bool = λ r. is_id (id_of c.args.row) (id_of r) in
    let at = c.find_at.ensures ∙ ap (λ (i : Id). position (λ r. is_id i (id_of r)) c.args.self.now.items) c.id.ensures in
    c.push.ensures.items ∙ sym (put_last test c.args.row c.args.self.now.items (find_nowhere test c.args.self.now.items (sym at ∙ c.in-None.is)))
