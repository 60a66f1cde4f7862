use Rattle.kms_host.specs.Memory.{both}
use Rattle.std.proofs.Common.{false}
use Rattle.kms_host.specs.declared.bytes.NoMemory.{NoMemory}
use Rattle.kms_host.proofs.AgreeLaws.{agrees_apart, apart_attached}
use Rattle.kms_host.proofs.RecordingLaws.{tells_noted}
use Rattle.kms_host.proofs.memory.calls.MemoryHostHost.attach.Goals as goal

pub invariant_of-self : goal.invariant_of-self
invariant_of-self c = agrees_apart {E = NoMemory} (both c.self.inside.opening) c.self.inside.key_files.items c.attached.result false c.self.inside.log c.note.new.self _ c.self.inside.outputs.items c.self.inside.opened c.self.inside.file_0 c.self.inside.file_1 c.attached.ensures c.note.ensures (apart_attached _ _) c.self.invariant

pub returns-clause-told : goal.returns-clause-told
returns-clause-told c = rw (← c.self.view_is) (tells_noted {E = NoMemory} (both c.self.inside.opening) c.self.inside.key_files.items c.attached.result false c.self.inside.log c.note.new.self _ c.attached.ensures c.note.ensures)
