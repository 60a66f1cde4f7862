use Rattle.std.proofs.Common.{take}
use Rattle.std.specs.List.{AllByRecursion}
use Rattle.kms_record.specs.Metadata.{IsPairInRange}
use Rattle.kms_record.proofs.metadata.is_each_pair_in_range.Given as goal

abbrev pub invariant-loop-pair : goal.invariant-loop-pair
invariant-loop-pair l = AllByRecursion IsPairInRange (take l.pair-index l.pairs)
