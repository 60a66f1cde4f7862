use Rattle.kms_host.specs.Memory.{both}
use Rattle.std.proofs.Common.{refl, false}
use Rattle.kms_host.specs.declared.bytes.NoMemory.{NoMemory}
use Rattle.kms_host.proofs.AgreeLaws.{agrees_apart, apart_took}
use Rattle.kms_host.proofs.memory.calls.MemoryHostHost.take.Goals as goal

pub invariant_of-self : goal.invariant_of-self
invariant_of-self c = agrees_apart {E = NoMemory} (both c.self.inside.opening) c.self.inside.key_files.items _ false c.self.inside.log c.note.new.self _ c.self.inside.outputs.items c.self.inside.opened c.self.inside.file_0 c.self.inside.file_1 refl c.note.ensures (apart_took _ _ _) c.self.invariant

pub invariant_of-self-2 : goal.invariant_of-self-2
invariant_of-self-2 c = agrees_apart {E = NoMemory} (both c.self.inside.opening) c.self.inside.key_files.items c.took-call.result false c.self.inside.log c.note-2.new.self _ c.self.inside.outputs.items c.self.inside.opened c.self.inside.file_0 c.self.inside.file_1 c.took-call.ensures c.note-2.ensures (apart_took _ _ _) c.self.invariant
