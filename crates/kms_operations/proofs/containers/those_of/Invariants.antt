use Rattle.std.proofs.Common.{◌≡◌, take}
use Rattle.std.specs.Prelude.{filter}
use Rattle.kms_world.specs.Id.{is_id}
use Rattle.kms_operations.proofs.containers.those_of.Given as goal

abbrev pub invariant-loop-row : goal.invariant-loop-row
invariant-loop-row l = l.all ≡ filter (λ r. is_id l.id r.container) (take l.row-index l.consumers)
