use Rattle.std.proofs.Common.{length}
use Rattle.kms_page.proofs.NextLaws.{next_there, next_is, next_begins}
use Rattle.kms_page.proofs.laws.a_next_page_is_where_rows_are_left.Goals as goal

pub returns-clause-there : goal.returns-clause-there
returns-clause-there c places = next_there c.args.query.now places

pub returns-clause-offset : goal.returns-clause-offset
returns-clause-offset c total next there = next_is c.args.query.now total next there

pub returns-clause-begins : goal.returns-clause-begins
returns-clause-begins c places next there = next_begins c.args.query.now places (length places) next there
