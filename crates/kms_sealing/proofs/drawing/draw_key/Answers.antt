use Rattle.kms_sealing.proofs.DrawLaws.{drew_nothing, drew_key_alone}
use Rattle.kms_sealing.proofs.drawing.draw_key.Goals as goal

pub returns-in_default-clause-told : goal.returns-in_default-clause-told
returns-in_default-clause-told g c = drew_nothing c.args.needed _ c.if-not-needed.false c.in_default.ensures.told

pub returns-in_default-draw_iv-clause-told : goal.returns-in_default-draw_iv-clause-told
returns-in_default-draw_iv-clause-told g c = drew_key_alone c.args.needed c.in-Ok.key _ c.if-not-needed.false c.in-Ok.ensures.size c.in-Ok.ensures.told c.in_default-draw_iv.ensures.told
