use Rattle.kms_store.proofs.StandsLaws.{fresh_kept, fresh_counted}
use Rattle.kms_store.proofs.laws.a_fresh_store_keeps_nothing.Goals as goal

pub returns : goal.returns
returns c tag lt = (fresh_kept tag lt, fresh_counted tag)
