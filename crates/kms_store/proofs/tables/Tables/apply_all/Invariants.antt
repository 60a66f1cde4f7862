use Rattle.std.proofs.Common.{◌≡◌, ◌≤◌, length, map}
use Rattle.std.specs.List.{AllByRecursion}
use Rattle.std.specs.Vec.Iter.{into_iter_items}
use Rattle.kms_kept.specs.Kept.{after_step}
use Rattle.kms_store.specs.Ready.{TaggedChange}
use Rattle.kms_store.proofs.tables.Tables.apply_all.Given as goal

-- what is left leads where all do, under the same tag, and there is memory for it
abbrev pub invariant-loop-ready : goal.invariant-loop-ready
invariant-loop-ready l =
    let rest = into_iter_items l.ready-iterator in
    record {
      leads : after_step (map (λ (ready : TaggedChange). ready.change) rest) l.self.kept ≡ after_step l.fn.step.changes l.fn.self.kept;
      tags : AllByRecursion (λ (ready : TaggedChange). ready.tag ≡ l.self.kept.state.tag) rest;
      spare : length rest ≤ l.self.spare;
    }
