use Rattle.kms_opened.proofs.StateLaws.{found_there, found_nowhere}
use Rattle.kms_opened.proofs.laws.a_secret_is_found_opened.Goals as goal

pub returns-clause-there : goal.returns-clause-there
returns-clause-there c = found_there

pub returns-clause-nowhere : goal.returns-clause-nowhere
returns-clause-nowhere c = found_nowhere
