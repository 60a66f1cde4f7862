use Rattle.std.proofs.Common.{◌≡◌, take, map}
use Rattle.kms_secret.specs.Metadata as spec
use Rattle.kms_secret.proofs.metadata.all_lowered.Given as goal

abbrev pub invariant-loop-pair : goal.invariant-loop-pair
invariant-loop-pair l = l.all.items ≡ map spec.lowered (take l.pair-index l.pairs)
