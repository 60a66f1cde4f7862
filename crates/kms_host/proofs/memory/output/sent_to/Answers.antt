use Rattle.std.proofs.Common.{◌∙◌, refl}
use Rattle.kms_host.proofs.OutputLaws.{sent_there, sent_nowhere}
use Rattle.kms_host.proofs.memory.output.sent_to.Goals as goal

pub returns-in-Some : goal.returns-in-Some
returns-in-Some c =
    c.as_slice.ensures ∙ sent_there c.args.line c.in-Some.place c.args.outputs.now _ _ c.in-Some.ensures refl

pub returns-in-None : goal.returns-in-None
returns-in-None c = sent_nowhere c.args.line c.args.outputs.now c.in-None.ensures
