use Rattle.kms_host.specs.Memory.{both}
use Rattle.std.proofs.Common.{false}
use Rattle.kms_host.specs.declared.bytes.NoMemory.{NoMemory}
use Rattle.kms_host.proofs.AgreeLaws.{agrees_apart, apart_listened}
use Rattle.kms_host.proofs.RecordingLaws.{tells_noted}
use Rattle.kms_host.proofs.memory.calls.MemoryHostHost.listen.Goals as goal

pub invariant_of-self : goal.invariant_of-self
invariant_of-self c = agrees_apart {E = NoMemory} (both c.self.inside.opening) c.self.inside.key_files.items c.listened.result false c.self.inside.log c.note.new.self _ c.self.inside.outputs.items c.self.inside.opened c.self.inside.file_0 c.self.inside.file_1 c.listened.ensures c.note.ensures (apart_listened _ _) c.self.invariant

pub returns-clause-told : goal.returns-clause-told
returns-clause-told c = rw (← c.self.view_is) (tells_noted {E = NoMemory} (both c.self.inside.opening) c.self.inside.key_files.items c.listened.result false c.self.inside.log c.note.new.self _ c.listened.ensures c.note.ensures)
