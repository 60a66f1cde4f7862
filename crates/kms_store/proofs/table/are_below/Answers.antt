use Rattle.std.proofs.Common.{ap, sym, ◌∙◌, ◌-◌, length, refl}
use Rattle.std.specs.Prelude.{nat_lt}
use Rattle.kms_world.specs.declared.id.Id.{Id}
use Rattle.kms_store.proofs.TableLaws.{all_below, none_below, last_place}
use Rattle.kms_store.proofs.table.are_below.Goals as goal

pub returns-in-Some : goal.returns-in-Some
returns-in-Some g c =
    let id_of = g.R.Row.id_of in
    let xs = c.args.rows.now in
    let k = length xs - 1 in
    let is = rw c.in-Some.is at c.last.ensures.value in
    ap (λ (i : Id). nat_lt i.0 c.args.id.0) c.id.ensures ∙ sym (all_below id_of c.args.id.0 xs k c.in-Some.row.now c.requires (last_place id_of c.args.id.0 xs k c.in-Some.row.now refl (sym is)) (sym is))

pub returns-in-None : goal.returns-in-None
returns-in-None g c =
    let is = rw c.in-None.is at c.last.ensures.value in
    sym (none_below g.R.Row.id_of c.args.id.0 c.args.rows.now (length c.args.rows.now - 1) refl (sym is))
