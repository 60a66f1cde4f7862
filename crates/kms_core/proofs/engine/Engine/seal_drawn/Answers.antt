use Rattle.std.proofs.Common.{◌<◌, ℕ, ap, sym, subst, ◌∙◌}
use Rattle.kms_kept.specs.Rising.{IsRising}
use Rattle.kms_core.specs.Settling.{Keeping}
use Rattle.kms_core.specs.Steps.{Held}
use Rattle.kms_core.proofs.AskLaws.{ok_to}
use Rattle.kms_core.proofs.SealedLaws.{sealed_made, sealed_prepares}
use Rattle.kms_core.proofs.engine.Engine.seal_drawn.Goals as goal

pub returns-in-Ok-clause-step : goal.returns-in-Ok-clause-step
returns-in-Ok-clause-step c =
    let e = c.in-Ok.ensures in
    ok_to _ _ c.put_sealed.result (λ a p.
    sealed_prepares c.args.self.now c.put_sealed.new.self c.args.new c.in-Ok.sealed a.step (subst (λ (h : Held). IsRising h.store.stored.kept.state) c.self.view_is c.self.invariant.rising) c.requires.can
    (record { masters = c.put_sealed.ensures.same.masters ∙ e.masters; kept = c.put_sealed.ensures.same.kept ∙ ap (λ (k : Keeping). k.stored.kept) e.store })
    e.adds e.opens (λ some. subst (λ (n : ℕ). 0 < n) (sym c.put_sealed.ensures.spare) (e.room some)) p) c.put_sealed.ensures.step

pub returns-in-Ok-clause-made : goal.returns-in-Ok-clause-made
returns-in-Ok-clause-made c =
    ok_to _ _ c.put_sealed.result (λ a p. sealed_made c.args.self.now c.put_sealed.new.self c.args.new c.args.moment c.in-Ok.sealed c.args.drawn a.step c.in-Ok.ensures.sealed p) c.put_sealed.ensures.step
