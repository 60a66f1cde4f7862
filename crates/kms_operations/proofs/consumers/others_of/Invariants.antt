use Rattle.std.proofs.Common.{◌≡◌, ◌&&◌, not, take}
use Rattle.std.specs.Prelude.{filter}
use Rattle.kms_world.specs.Effect.{is_consumer}
use Rattle.kms_world.specs.Id.{is_id}
use Rattle.kms_operations.proofs.consumers.others_of.Given as goal

abbrev pub invariant-loop-row : goal.invariant-loop-row
invariant-loop-row l = l.all ≡ filter (λ r. is_id l.id r.container && not (is_consumer l.id l.pair.0 l.pair.1 r)) (take l.row-index l.consumers)
