use Rattle.kms_store.proofs.TalliedLaws.{tally_put, rest_few}
use Rattle.kms_store.proofs.counts.count_put.Goals as goal

pub add-requires-clause-most : goal.add-requires-clause-most
add-requires-clause-most g c =
    rest_few g.R.Row.project_of g.R.Row.id_of c.args.id c.args.rows.now.items c.count_drop.new.entries.items c.count_drop.ensures.tally c.args.project.now c.few.ensures

pub returns-clause-tally : goal.returns-clause-tally
returns-clause-tally g c = λ row same is.
    tally_put g.R.Row.project_of g.R.Row.id_of c.args.id c.args.rows.now.items c.count_drop.new.entries.items c.count_drop.ensures.tally c.args.project.now row c.add.new.entries.items c.requires.rises same is c.add.ensures.ascend c.add.ensures.numbers
