use Rattle.kms_ring.proofs.UniqueLaws.{wrapped_unwraps}
use Rattle.kms_ring.proofs.laws.what_is_wrapped_is_unwrapped.Goals as goal

pub returns : goal.returns
returns c = wrapped_unwraps
