use Rattle.std.proofs.Common.{◌≡◌}
use Rattle.std.specs.List.{AllByRecursion}
use Rattle.std.specs.Vec.Iter.{into_iter_items}
use Rattle.kms_record.specs.Grammar.{IsStep}
use Rattle.kms_kept.specs.Kept.{after_record}
use Rattle.kms_store.proofs.loading.apply_steps.Given as goal

-- what is left leads where all do
abbrev pub invariant-loop-step : goal.invariant-loop-step
invariant-loop-step l =
    let rest = into_iter_items l.step-iterator in
    record {
      leads : after_record rest l.tables.kept ≡ after_record l.fn.steps l.fn.tables.kept;
      each : AllByRecursion IsStep rest;
    }
