use Rattle.std.proofs.Common.{◌≡◌, Bool, Some, sym, subst}
use Rattle.std.proofs.lemmas.Bool.{eqb-true}
use Rattle.std.proofs.lemmas.List.Quantifiers.{position-Some}
use Rattle.std.specs.List.{position}
use Rattle.kms_kept.proofs.RisingLaws.{one_id}
use Rattle.kms_world.specs.Id.{is_id}
use Rattle.kms_store.specs.Table.{Tabular}
use Rattle.kms_store.proofs.TableLaws.{still_indexed}
use Rattle.kms_store.proofs.table.Table.set.Goals as goal

pub invariant_of-self : goal.invariant_of-self
invariant_of-self g c =
    let id_of = g.R.Row.id_of in
    let row = c.args.row in
    let rows = c.self.inside.rows.items in
    let test : g.row.R.Denot → Bool = λ r. is_id (id_of row) (id_of r) in
    let there : position test rows ≡ Some c.args.at = subst (λ (t : Tabular g.row.R.Denot). position test t.items ≡ Some c.args.at) (sym c.self.view_is) c.requires.place in
    let is = position-Some test rows c.args.at row there in
    let table = c.self.inside in
    still_indexed id_of table.ids table.rows table.spare c.args.at row row c.self.invariant (sym (one_id _ (id_of row) (eqb-true _ _ is.1)))
