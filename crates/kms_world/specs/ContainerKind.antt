-- Kinds of containers, by their words.
use Rattle.std.specs.Prelude.{ℕ, List, codes}
use Rattle.kms_world.specs.declared.container.ContainerKind.{ContainerKind}
use Rattle.kms_world.specs.declared.container.ContainerKind.TheVariants.{Generic, Rsa, Certificate}

abbrev pub word_of : ContainerKind → List ℕ
word_of Generic = codes "generic"
word_of Rsa = codes "rsa"
word_of Certificate = codes "certificate"
