use Rattle.kms_model.specs.Ask.{effects_of}
use Rattle.kms_model.proofs.AskLaws.{ids_stay}
use Rattle.kms_model.proofs.laws.ids_stay_given.Goals as goal

pub returns : goal.returns
returns c = λ s caller op t. ids_stay (effects_of s caller op t) s
