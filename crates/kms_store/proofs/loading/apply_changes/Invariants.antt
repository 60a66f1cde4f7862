use Rattle.std.proofs.Common.{◌≡◌}
use Rattle.std.specs.List.{AllByRecursion}
use Rattle.std.specs.Vec.Iter.{into_iter_items}
use Rattle.kms_record.specs.Grammar.{IsChange}
use Rattle.kms_kept.specs.Kept.{after_changes}
use Rattle.kms_store.specs.Part.{part_of}
use Rattle.kms_store.proofs.loading.apply_changes.Given as goal

-- what is left leads where all do
abbrev pub invariant-loop-change : goal.invariant-loop-change
invariant-loop-change l =
    let rest = into_iter_items l.change-iterator in
    record {
      leads : after_changes (part_of l.part) rest l.tables.kept ≡ after_changes (part_of l.part) l.fn.changes.items l.fn.tables.kept;
      each : AllByRecursion IsChange rest;
    }
