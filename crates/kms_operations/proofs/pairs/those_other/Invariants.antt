use Rattle.std.proofs.Common.{◌≡◌, take}
use Rattle.kms_model.specs.Metadata.{without_key}
use Rattle.kms_operations.proofs.pairs.those_other.Given as goal

abbrev pub invariant-loop-pair : goal.invariant-loop-pair
invariant-loop-pair l = l.others ≡ without_key l.key (take l.pair-index l.pairs)
