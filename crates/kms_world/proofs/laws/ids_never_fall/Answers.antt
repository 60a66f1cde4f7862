use Rattle.kms_world.proofs.EffectLaws.{ids_given, tag_kept}
use Rattle.kms_world.proofs.laws.ids_never_fall.Goals as goal

pub returns-clause-kept : goal.returns-clause-kept
returns-clause-kept c = λ effect s. (ids_given effect s).0

pub returns-clause-one : goal.returns-clause-one
returns-clause-one c = λ effect s. (ids_given effect s).1

pub returns-clause-tag : goal.returns-clause-tag
returns-clause-tag c = tag_kept
