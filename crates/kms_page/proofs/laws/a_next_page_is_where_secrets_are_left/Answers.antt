use Rattle.std.proofs.Common.{length}
use Rattle.kms_page.specs.Filter.{passes, filtered}
use Rattle.kms_page.specs.Page.{ordered, page_from, page_of_rows}
use Rattle.kms_page.proofs.NextLaws.{next_there, next_begins}
use Rattle.kms_page.proofs.laws.a_next_page_is_where_secrets_are_left.Goals as goal

pub returns-clause-there : goal.returns-clause-there
unfolding page_of_rows page_from
returns-clause-there c = next_there c.args.query.now (ordered c.args.rows.now c.args.shown.now c.args.query.now)

pub returns-clause-begins : goal.returns-clause-begins
unfolding page_of_rows page_from ordered filtered passes
returns-clause-begins c next there =
    next_begins c.args.query.now (ordered c.args.rows.now c.args.shown.now c.args.query.now) (length (ordered c.args.rows.now c.args.shown.now c.args.query.now)) next there
