use Rattle.kms_ring.proofs.UniqueLaws.{one_bad}
use Rattle.kms_ring.proofs.laws.one_line_is_the_first_bad_one.Goals as goal

pub returns : goal.returns
returns c = one_bad
