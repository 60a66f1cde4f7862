use Rattle.kms_secret.proofs.PairLaws.{key_stays}
use Rattle.kms_secret.proofs.laws.keys_are_read_as_themselves.Goals as goal

pub returns : goal.returns
returns c = key_stays
