use Rattle.std.proofs.Common.{◌≡◌, drop, map}
use Rattle.kms_page.specs.Sorts.{sorts_of}
use Rattle.kms_page.proofs.SortsLaws.{behind}
use Rattle.kms_page.proofs.sorts.sorts_of.Given as goal

abbrev pub invariant-loop-piece : goal.invariant-loop-piece
invariant-loop-piece l =
    behind l.sorts (map (λ piece. piece.now) (drop l.piece-index l.piece-items)) ≡ sorts_of l.text
