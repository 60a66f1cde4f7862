use Rattle.std.proofs.Common.{subst}
use Rattle.kms_sealing.specs.Drawing.{Draws}
use Rattle.kms_core.proofs.SealedLaws.{asks_with_drawn}
use Rattle.kms_core.proofs.engine.Engine.seal.Goals as goal

pub returns-in-Ok-clause-made : goal.returns-in-Ok-clause-made
returns-in-Ok-clause-made c = λ needed calls is.
    asks_with_drawn c.args.self.now c.args.moment needed c.in-Ok.drawn calls c.seal_drawn.result (subst (λ d. Draws needed d calls) c.in-Ok.is is) c.seal_drawn.ensures.made c.seal_drawn.ensures.err
