use Rattle.kms_store.proofs.TalliedLaws.{tally_few, tally_new}
use Rattle.kms_store.proofs.counts.count_new.Goals as goal

pub add-requires-clause-most : goal.add-requires-clause-most
add-requires-clause-most g c = tally_few g.R.Row.project_of c.args.rows.now.items c.args.entries.now.items c.requires.tally c.args.project.now c.few.ensures

pub returns-clause-tally : goal.returns-clause-tally
returns-clause-tally g c = λ row is. tally_new g.R.Row.project_of c.args.rows.now.items c.args.entries.now.items c.requires.tally c.args.project.now row c.add.new.entries.items is c.add.ensures.ascend c.add.ensures.numbers
