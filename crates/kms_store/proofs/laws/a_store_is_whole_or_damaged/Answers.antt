use Rattle.kms_store.proofs.DamageLaws.{whole_or_damaged}
use Rattle.kms_store.proofs.laws.a_store_is_whole_or_damaged.Goals as goal

pub returns : goal.returns
returns c = whole_or_damaged
