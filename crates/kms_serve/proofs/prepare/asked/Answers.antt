use Rattle.kms_model.specs.Ask.{answer_to, state_after}
use Rattle.kms_world.specs.State.{State}
use Rattle.kms_world.specs.declared.operation.Request.TheVariants.{Asking}
use Rattle.kms_serve.proofs.AskLaws.{form_by, take_over_by}
use Rattle.kms_serve.proofs.FormLaws.{asked_form}
use Rattle.kms_serve.proofs.prepare.asked.Goals as goal

pub returns-in-Asking-clause-may : goal.returns-in-Asking-clause-may
returns-in-Asking-clause-may g c =
    take_over_by c.args.engine.now _ c.ask.result (λ (s : State). state_after s c.in-Asking.caller c.in-Asking.op c.args.moment) c.ask.ensures.opens c.ask.ensures.step

pub returns-in-Asking-clause-form : goal.returns-in-Asking-clause-form
returns-in-Asking-clause-form g c =
    form_by c.args.engine.now c.ask.result (λ (s : State). answer_to s c.in-Asking.caller c.in-Asking.op c.args.moment)
    (λ (s : State). asked_form s (Asking c.in-Asking.caller c.in-Asking.op) c.args.moment) c.ask.ensures.opens c.ask.ensures.answer
