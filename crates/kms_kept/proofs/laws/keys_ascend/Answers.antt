use Rattle.kms_kept.proofs.KeyNumberLaws.{keys_ascend}
use Rattle.kms_kept.proofs.laws.keys_ascend.Goals as goal

pub returns : goal.returns
returns c = keys_ascend
