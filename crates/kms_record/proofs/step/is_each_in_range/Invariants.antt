use Rattle.std.proofs.Common.{take}
use Rattle.std.specs.List.{AllByRecursion}
use Rattle.kms_record.specs.Grammar.{IsChangeInRange}
use Rattle.kms_record.proofs.step.is_each_in_range.Given as goal

abbrev pub invariant-loop-change : goal.invariant-loop-change
invariant-loop-change l = AllByRecursion IsChangeInRange (take l.change-index l.changes)
