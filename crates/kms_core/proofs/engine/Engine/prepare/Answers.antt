use Rattle.std.proofs.Common.{Option, sym, subst}
use Rattle.kms_operations.specs.Outcome.{effects_of}
use Rattle.kms_record.specs.declared.change.Change.{Change}
use Rattle.kms_world.specs.Effect.{after_effects}
use Rattle.kms_core.specs.Steps.{LeadsTo}
use Rattle.kms_core.proofs.engine.Engine.prepare.Goals as goal

pub returns-in_ok-step-in-Some-clause-step : goal.returns-in_ok-step-in-Some-clause-step
returns-in_ok-step-in-Some-clause-step c = λ s has.
    subst (λ (o : Option Change). LeadsTo c.in_ok-step-in-Some.step c.reserve.new.self (after_effects (effects_of c.args.self.now.store.stored.kept.state.tag o) s)) (sym c.in-Some.is)
    (c.in_ok-step-in-Some.ensures.leads s has)
