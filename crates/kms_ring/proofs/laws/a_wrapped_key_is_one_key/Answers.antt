use Rattle.kms_ring.proofs.UniqueLaws.{unwrapped_once, not_unwrapped}
use Rattle.kms_ring.proofs.laws.a_wrapped_key_is_one_key.Goals as goal

pub returns-clause-once : goal.returns-clause-once
returns-clause-once c = unwrapped_once

pub returns-clause-none : goal.returns-clause-none
returns-clause-none c = not_unwrapped
