use Rattle.std.proofs.Common.{◌<◌, ap, sym, subst, ◌∙◌}
use Rattle.kms_kept.specs.Rising.{IsRising}
use Rattle.kms_core.specs.Settling.{count_of}
use Rattle.kms_core.specs.Steps.{Held}
use Rattle.kms_core.proofs.PrepareLaws.{one_short, step_fits, row_leads}
use Rattle.kms_core.proofs.engine.Engine.reserve.Goals as goal

pub reserve_step-requires-clause-short : goal.reserve_step-requires-clause-short
reserve_step-requires-clause-short c =
    let staging = c.self.inside.store.staging in
    step_fits c.in_ok-step.step staging.steps staging.count (one_short c.args.change c.in_ok-step.step c.in_ok-step.ensures c.requires.fits.range) c.self.invariant.short
    (subst (λ (e : Held). count_of e.store < 1152) (sym c.self.view_is) c.requires.few)

pub returns-clause-leads : goal.returns-clause-leads
returns-clause-leads c =
    row_leads c.args.self.now _ c.args.change c.in_ok-step-2.step (subst (λ (e : Held). IsRising e.store.stored.kept.state) c.self.view_is c.self.invariant.rising) c.requires.fits
    (record { masters = ap (λ (e : Held). e.masters) c.self.view_is; kept = c.reserve_step.ensures.kept ∙ ap (λ (e : Held). e.store.stored.kept) c.self.view_is })
    (c.in_ok-step-2.ensures.changes ∙ c.in_ok-step.ensures) c.in_ok-step-2.ensures.reserved
