-- Reasons of a denial, as they are printed.
use Rattle.std.specs.Prelude.{ℕ, List, codes}
use Rattle.kms_world.specs.declared.action.Why.{Why}
use Rattle.kms_world.specs.declared.action.Why.TheVariants.{Project, Role, Private}

abbrev pub word_of : Why → List ℕ
word_of Project = codes "project"
word_of Role = codes "role"
word_of Private = codes "private"
