use Rattle.kms_page.proofs.RowLaws.{rows_of_places, total_of_places}
use Rattle.kms_page.proofs.laws.a_page_of_places_is_that_of_their_rows.Goals as goal

pub returns-clause-listed : goal.returns-clause-listed
returns-clause-listed g c = rows_of_places c.args.rows.now c.args.places.now c.args.query.now c.requires

pub returns-clause-total : goal.returns-clause-total
returns-clause-total g c = total_of_places c.args.rows.now c.args.places.now c.args.query.now c.requires
