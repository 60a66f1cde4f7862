use Rattle.kms_opened.proofs.OnceLaws.{opened_once}
use Rattle.kms_opened.proofs.laws.what_is_kept_opens_once.Goals as goal

pub returns : goal.returns
returns c = opened_once
