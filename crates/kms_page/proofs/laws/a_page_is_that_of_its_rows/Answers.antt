use Rattle.kms_page.proofs.RowLaws.{rows_of_page, total_of_page}
use Rattle.kms_page.proofs.laws.a_page_is_that_of_its_rows.Goals as goal

pub returns-clause-listed : goal.returns-clause-listed
returns-clause-listed c = rows_of_page c.args.rows.now c.args.shown.now c.args.query.now

pub returns-clause-total : goal.returns-clause-total
returns-clause-total c = total_of_page c.args.rows.now c.args.shown.now c.args.query.now
