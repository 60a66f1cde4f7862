use Rattle.kms_opened.proofs.StateLaws.{fresh_opens, fresh_rises}
use Rattle.kms_opened.proofs.laws.a_fresh_store_is_opened.Goals as goal

pub returns-clause-opened : goal.returns-clause-opened
returns-clause-opened c = fresh_opens

pub returns-clause-rising : goal.returns-clause-rising
returns-clause-rising c = fresh_rises
