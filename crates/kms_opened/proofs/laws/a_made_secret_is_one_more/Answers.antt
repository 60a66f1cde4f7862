use Rattle.kms_opened.proofs.MadeLaws.{made_is}
use Rattle.kms_opened.proofs.laws.a_made_secret_is_one_more.Goals as goal

pub returns : goal.returns
returns c = made_is
