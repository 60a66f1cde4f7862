use Rattle.kms_host.proofs.Moments.{tells_weaker}
use Rattle.kms_core.specs.Engine.{held}
use Rattle.kms_core.proofs.SettleLaws.{keeps_held, settles_held}
use Rattle.kms_core.proofs.engine.Engine.settle.Goals as goal

pub returns-clause-told : goal.returns-clause-told
returns-clause-told g c =
    tells_weaker _ c.settle.ensures.told
    (λ was now k masters settled steps state o. settles_held (held c.self.inside) c.args.self.now c.self.view_is _ c.settle.result was now c.settle.ensures.kept k masters settled steps state o)

pub returns-clause-keeps : goal.returns-clause-keeps
returns-clause-keeps g c =
    tells_weaker _ c.settle.ensures.told
    (λ was now k settled steps o. keeps_held (held c.self.inside) c.args.self.now c.self.view_is _ c.settle.result was now k settled steps o)
