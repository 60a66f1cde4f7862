use Rattle.kms_page.proofs.RowLaws.{row_of_place}
use Rattle.kms_page.proofs.laws.a_row_stands_at_each_place.Goals as goal

pub returns : goal.returns
returns g c = row_of_place c.args.rows.now c.args.places.now c.requires
