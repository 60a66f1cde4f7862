use Rattle.kms_box.proofs.RangeLaws.{container_in_range}
use Rattle.kms_operations.proofs.containers.wanted.Goals as goal

pub returns-clause-range : goal.returns-clause-range
returns-clause-range c = container_in_range c.in_ok-body.body c.in_ok-new.new c.in_ok-new.ensures
