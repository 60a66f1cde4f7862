use Rattle.std.proofs.Common.{List, map, ap, ◌∙◌}
use Rattle.kms_page.specs.declared.sorts.SortKey.{SortKey}
use Rattle.std.proofs.Common.{Bool}
use Rattle.kms_page.specs.Sorts.{sorts_from}
use Rattle.kms_page.proofs.SortsLaws.{behind, behind_none}
use Rattle.kms_page.proofs.sorts.sorts_of.Goals as goal

pub loop-piece-init : goal.loop-piece-init
loop-piece-init c =
    ap (λ (s : List (SortKey × Bool)). behind s (map (λ piece. piece.now) c.deref-piece-items.result.now)) c.new-sorts.ensures
    ∙ behind_none (map (λ piece. piece.now) c.deref-piece-items.result.now)
    ∙ ap sorts_from (ap (map (λ piece. piece.now)) c.deref-piece-items.ensures.value ∙ c.in_ok-pieces.ensures)
