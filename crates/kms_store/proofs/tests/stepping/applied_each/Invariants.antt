use Rattle.std.specs.List.{AllByRecursion}
use Rattle.std.specs.Vec.Iter.{into_iter_items}
use Rattle.kms_record.specs.Grammar.{IsStep}
use Rattle.kms_store.proofs.tests.stepping.applied_each.Given as goal

abbrev pub invariant-loop-step : goal.invariant-loop-step
invariant-loop-step l = AllByRecursion IsStep (into_iter_items l.step-iterator)
