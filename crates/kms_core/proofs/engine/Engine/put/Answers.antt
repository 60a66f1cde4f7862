use Rattle.kms_host.proofs.Moments.{since_weaker}
use Rattle.kms_core.proofs.SealedLaws.{draw_cause}
use Rattle.kms_core.proofs.engine.Engine.put.Goals as goal

pub returns-clause-told : goal.returns-clause-told
returns-clause-told g c = since_weaker _ c.draw-drawn.ensures.told (λ was calls p. (c.seal.ensures.made _ calls p.0, p.1))

pub returns-clause-cause : goal.returns-clause-cause
returns-clause-cause g c = draw_cause _ _ c.draw-drawn.result c.seal.result c.draw-drawn.ensures.cause c.seal.ensures.fails
