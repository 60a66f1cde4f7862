use Rattle.kms_fernet.proofs.Verdict.{verdict}
use Rattle.kms_fernet.proofs.laws.opens_or_fails.Goals as goal

pub returns : goal.returns
returns c = verdict
