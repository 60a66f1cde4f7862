use Rattle.std.proofs.Common.{◌≡◌, take}
use Rattle.std.specs.Prelude.{filter}
use Rattle.kms_world.specs.Pairs.{is_below}
use Rattle.kms_operations.proofs.pairs.those_before.Given as goal

abbrev pub invariant-loop-pair : goal.invariant-loop-pair
invariant-loop-pair l = l.before ≡ filter (λ p. is_below p.0 l.key) (take l.pair-index l.pairs)
