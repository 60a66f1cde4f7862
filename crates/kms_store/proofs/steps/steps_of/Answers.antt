use Rattle.std.proofs.Common.{◌≡◌, ap, ◌∙◌, arith}
use Rattle.std.specs.Int.{w32, from_be_bytes}
use Rattle.kms_store.proofs.StepsLaws.{record_has_four, record_says}
use Rattle.kms_store.proofs.steps.steps_of.Goals as goal

pub returns-in-Some : goal.returns-in-Some
returns-in-Some c = λ steps is. c.from_be_bytes.ensures ∙ ap (from_be_bytes w32) c.in-Some.ensures.cases.same ∙ record_says c.args.bytes.now steps is

pub returns-in-None : goal.returns-in-None
returns-in-None c = λ steps is. absurd (omega (arith, record_has_four c.args.bytes.now steps is, c.in-None.ensures.cases))
