use Rattle.std.proofs.Common.{refl}
use Rattle.kms_sealing.proofs.KeyFileLaws.{reads}
use Rattle.kms_sealing.proofs.key_file.read_key_file.Goals as goal

pub returns-in-Ok-clause-told : goal.returns-in-Ok-clause-told
returns-in-Ok-clause-told g c = reads c.args.name.now c.text.new.room _ c.in-Ok.len c.ring_of.result c.text.auto.room refl c.in-Ok.ensures.told c.ring_of.ensures.ok c.ring_of.ensures.err
