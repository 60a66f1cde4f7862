use Rattle.std.proofs.Common.{◌<◌, sym, subst}
use Rattle.kms_core.specs.Settling.{count_of}
use Rattle.kms_core.specs.Steps.{Held}
use Rattle.kms_core.proofs.PrepareLaws.{sealed_short, step_fits}
use Rattle.kms_core.proofs.engine.Engine.reserve_sealed.Goals as goal

pub reserve_step-requires-clause-short : goal.reserve_step-requires-clause-short
reserve_step-requires-clause-short c =
    let staging = c.self.inside.store.staging in
    step_fits c.in_ok-step.step staging.steps staging.count
    (sealed_short c.args.sealed c.args.secret c.args.id c.args.updated c.args.media c.in_ok-step.step c.in_ok-step.ensures.changes c.in_ok-step.ensures.range) c.self.invariant.short
    (subst (λ (e : Held). count_of e.store < 1152) (sym c.self.view_is) c.requires.few)
