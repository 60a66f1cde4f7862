use Rattle.std.proofs.Common.{◌≡◌, Bool, List, Some, get_or, sym, ap, subst, ◌∙◌}
use Rattle.kms_world.specs.Id.{is_id}
use Rattle.kms_store.specs.Table.{Tabular}
use Rattle.kms_store.proofs.TableLaws.{find_there, find_nowhere}
use Rattle.kms_store.proofs.table.Table.found.Goals as goal

pub returns-in-Some : goal.returns-in-Some
returns-in-Some g c =
    let test : g.row.R.Denot → Bool = λ r. is_id c.args.id (g.R.Row.id_of r) in
    let is = ap (λ (t : Tabular g.row.R.Denot). t.items) c.self.view_is in
    ap (λ x. Some x) (subst (λ (rows : List g.row.R.Denot). c.index.result.now ≡ get_or rows c.in-Some.at c.index.result.now) is c.index.ensures)
    ∙ sym (find_there test c.args.self.now.items c.in-Some.at c.index.result.now (sym c.find_at.ensures ∙ c.in-Some.is))

pub returns-in-None : goal.returns-in-None
returns-in-None g c = sym (find_nowhere (λ r. is_id c.args.id (g.R.Row.id_of r)) c.args.self.now.items (sym c.find_at.ensures ∙ c.in-None.is))
