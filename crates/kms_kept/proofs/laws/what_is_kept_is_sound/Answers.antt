use Rattle.kms_kept.proofs.SoundLaws.{first_is_sound, change_is_sound, changes_are_sound, record_is_sound}
use Rattle.kms_kept.proofs.laws.what_is_kept_is_sound.Goals as goal

pub returns-clause-first : goal.returns-clause-first
returns-clause-first c = first_is_sound

pub returns-clause-change : goal.returns-clause-change
returns-clause-change c = change_is_sound

pub returns-clause-changes : goal.returns-clause-changes
returns-clause-changes c = changes_are_sound

pub returns-clause-records : goal.returns-clause-records
returns-clause-records c = record_is_sound
