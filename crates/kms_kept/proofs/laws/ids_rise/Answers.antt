use Rattle.kms_kept.proofs.RisingLaws.{change_rises}
use Rattle.kms_kept.proofs.BaseLaws.{base_gives_none}
use Rattle.kms_kept.proofs.IdLimitLaws.{ids_within}
use Rattle.kms_kept.proofs.OrderKeeping.{orders_apart}
use Rattle.kms_kept.proofs.laws.ids_rise.Goals as goal

pub returns-clause-rise : goal.returns-clause-rise
returns-clause-rise c = change_rises

pub returns-clause-base : goal.returns-clause-base
returns-clause-base c = base_gives_none

pub returns-clause-within : goal.returns-clause-within
returns-clause-within c = ids_within

pub returns-clause-apart : goal.returns-clause-apart
returns-clause-apart c = orders_apart
