use Rattle.kms_ring.proofs.UniqueLaws.{one_file, sound_file}
use Rattle.kms_ring.proofs.laws.a_key_file_is_one_list.Goals as goal

pub returns-clause-once : goal.returns-clause-once
returns-clause-once c = one_file

pub returns-clause-sound : goal.returns-clause-sound
returns-clause-sound c = sound_file
