use Rattle.std.proofs.Common.{◌≡◌, ◌++◌, take}
use Rattle.std.specs.Prelude.{filter}
use Rattle.kms_world.specs.Pairs.{is_below}
use Rattle.kms_operations.proofs.pairs.push_those_after.Given as goal

abbrev pub invariant-loop-pair : goal.invariant-loop-pair
invariant-loop-pair l = l.before ≡ l.fn.before ++ filter (λ p. is_below l.key p.0) (take l.pair-index l.pairs)
