use Rattle.kms_kept.proofs.JoinedLaws.{change_joins}
use Rattle.kms_kept.proofs.laws.what_hangs_on_a_row_goes_with_it.Goals as goal

pub returns : goal.returns
returns c = change_joins
