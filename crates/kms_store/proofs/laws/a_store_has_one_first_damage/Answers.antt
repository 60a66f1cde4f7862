use Rattle.kms_store.proofs.DamageLaws.{one_damage}
use Rattle.kms_store.proofs.laws.a_store_has_one_first_damage.Goals as goal

pub returns : goal.returns
returns c = one_damage
