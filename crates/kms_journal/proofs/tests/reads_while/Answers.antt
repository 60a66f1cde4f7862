use Rattle.std.proofs.Common.{sym, subst}
use Rattle.std.specs.Prelude.{Option}
use Rattle.kms_host.specs.History.{History, WhereTold}
use Rattle.kms_host.proofs.Moments.{known_with_told, at_last}
use Rattle.kms_journal.specs.Device.{IsUntouched}
use Rattle.kms_journal.specs.Position.{Position, IsPlaced}
use Rattle.kms_journal.specs.Standing.{Standing}
use Rattle.kms_journal.proofs.RestLaws.{opened_placed, placed_taken, placed_untouched}
use Rattle.kms_journal.proofs.tests.reads_while.Goals as goal

pub bodies-requires-2 : goal.bodies-requires-2
bodies-requires-2 c =
    let p = c.in-Ok.journal in
    let opened = opened_placed p c.in-Ok.ensures.told in
    let fused = subst (λ (x : Option History). WhereTold x (λ h. (s : Standing) × IsPlaced p h s)) (sym c.fuse.ensures.told) opened in
    known_with_told _ fused c.in-Ok-bodies.ensures.told
    (λ was now k f. (
      k.0,
      subst (λ (q : Position). IsPlaced q now k.0) (sym c.in-Ok-bodies.ensures.position)
          (placed_taken p now k.0 (placed_untouched p was now k.0 (at_last (IsUntouched was) was now (f k.0 k.1).throughout) k.1)),
    ))
