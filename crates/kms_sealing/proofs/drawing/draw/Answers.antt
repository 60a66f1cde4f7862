use Rattle.std.proofs.Common.{ap}
use Rattle.std.specs.Prelude.{not}
use Rattle.kms_sealing.specs.Places.{has_key}
use Rattle.kms_sealing.proofs.DrawLaws.{drew_no_vector}
use Rattle.kms_sealing.proofs.drawing.draw.Goals as goal

pub returns-in_default-draw_iv-clause-told : goal.returns-in_default-draw_iv-clause-told
returns-in_default-draw_iv-clause-told g c =
    drew_no_vector (not c.has_key-needed.result) (not (has_key c.args.project.now c.args.tables.now.kept.keys)) c.in-Ok.key _ (ap not c.has_key-needed.ensures) c.in-Ok.ensures.needed c.in-Ok.ensures.told c.in_default-draw_iv.ensures.told
