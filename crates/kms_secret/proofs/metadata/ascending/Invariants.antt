use Rattle.std.proofs.Common.{◌≡◌, ◌++◌, true}
use Rattle.std.specs.Vec.Iter.{into_iter_items}
use Rattle.kms_secret.specs.Ascending.{ascend}
use Rattle.kms_secret.proofs.metadata.ascending.Given as goal

abbrev pub invariant-loop-pair : goal.invariant-loop-pair
invariant-loop-pair l = record {
  all : l.kept ++ into_iter_items l.pair-iterator ≡ l.fn.pairs.items;
  up : ascend l.kept ≡ true;
}
