use Rattle.std.proofs.Common.{◌≡◌, ◌∙◌, Bool, Some, None, sym, ap}
use Rattle.std.specs.Prelude.{find, option_copied}
use Rattle.kms_world.specs.Id.{is_id}
use Rattle.kms_store.proofs.TalliedLaws.{tally_there, tally_drop, tally_none}
use Rattle.kms_store.proofs.counts.count_drop.Goals as goal

pub take-requires-clause-least : goal.take-requires-clause-least
take-requires-clause-least g c =
    let test : g.row.R.Denot → Bool = λ r. is_id c.args.id (g.R.Row.id_of r) in
    let there : find test c.args.rows.now.items ≡ Some c.in-Some.old.now = sym c.found.ensures ∙ ap option_copied c.in-Some.is in
    tally_there g.R.Row.project_of c.args.rows.now.items c.args.entries.now.items c.requires.tally g.R.Row.id_of c.args.id c.project.result c.in-Some.old.now c.requires.rises there (sym c.project.ensures)

pub returns-in-Some-clause-tally : goal.returns-in-Some-clause-tally
returns-in-Some-clause-tally g c =
    let test : g.row.R.Denot → Bool = λ r. is_id c.args.id (g.R.Row.id_of r) in
    let there : find test c.args.rows.now.items ≡ Some c.in-Some.old.now = sym c.found.ensures ∙ ap option_copied c.in-Some.is in
    tally_drop g.R.Row.project_of c.args.rows.now.items c.args.entries.now.items c.requires.tally g.R.Row.id_of c.args.id c.project.result c.in-Some.old.now c.take.new.entries.items c.requires.rises there (sym c.project.ensures) c.take.ensures.ascend c.take.ensures.numbers

pub returns-in_default-clause-tally : goal.returns-in_default-clause-tally
returns-in_default-clause-tally g c =
    let test : g.row.R.Denot → Bool = λ r. is_id c.args.id (g.R.Row.id_of r) in
    let nowhere : find test c.args.rows.now.items ≡ None = sym c.found.ensures ∙ ap option_copied c.in_default.is in
    tally_none g.R.Row.project_of c.args.rows.now.items c.args.entries.now.items c.requires.tally g.R.Row.id_of c.args.id nowhere
