use Rattle.std.proofs.Common.{◌≡◌, ap, ◌∙◌, arith}
use Rattle.kms_store.specs.Snapshot.{Walked}
use Rattle.kms_store.proofs.SpellingLaws.{part_given}
use Rattle.kms_store.proofs.snapshot.SnapshotWalkPieces.piece.Goals as goal

pub returns-then-self-lt8-clause-given : goal.returns-then-self-lt8-clause-given
returns-then-self-lt8-clause-given c =
    part_given c.self.inside.head c.args.room.now _ c.self.inside.changes c.self.inside.given c.give_head-count.result (omega (arith, c.give_head-count.ensures.count, c.self.told)) c.give_head-count.ensures.bytes
    ∙ ap (λ (w : Walked). w.left) c.self.view_is
