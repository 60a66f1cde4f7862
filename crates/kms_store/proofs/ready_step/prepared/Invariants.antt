use Rattle.std.proofs.Common.{◌≡◌, ◌++◌, map}
use Rattle.std.specs.List.{AllByRecursion}
use Rattle.std.specs.Vec.Iter.{into_iter_items}
use Rattle.kms_record.specs.Grammar.{IsChange}
use Rattle.kms_store.specs.Ready.{TaggedChange}
use Rattle.kms_store.proofs.ready_step.prepared.Given as goal

-- those made ready, and what is left, are all
abbrev pub invariant-loop-change : goal.invariant-loop-change
invariant-loop-change l =
    let rest = into_iter_items l.change-iterator in
    record {
      all : map (λ (ready : TaggedChange). ready.change) l.ready.items ++ rest ≡ l.fn.step;
      tags : AllByRecursion (λ (ready : TaggedChange). ready.tag ≡ l.tag) l.ready.items;
      each : AllByRecursion IsChange rest;
    }
