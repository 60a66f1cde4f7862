use Rattle.kms_kept.proofs.SpelledLaws.{snapshot_fits, snapshot_is_one}
use Rattle.kms_kept.proofs.laws.a_snapshot_is_of_the_grammar.Goals as goal

pub returns-clause-changes : goal.returns-clause-changes
returns-clause-changes c = λ kept s. snapshot_fits kept s.grammar

pub returns-clause-bytes : goal.returns-clause-bytes
returns-clause-bytes c = snapshot_is_one
