use Rattle.kms_model.specs.Ask.{effects_of}
use Rattle.kms_model.proofs.AskLaws.{unstored}
use Rattle.kms_model.proofs.laws.a_change_is_stored.Goals as goal

pub returns : goal.returns
returns c = λ s caller op t none. unstored (effects_of s caller op t) s none
