use Rattle.kms_host.specs.Memory.{both}
use Rattle.kms_host.proofs.AgreeLaws.{agrees_named}
use Rattle.kms_host.proofs.memory.host.MemoryHost.key_file.Goals as goal

pub invariant_of-self-2 : goal.invariant_of-self-2
invariant_of-self-2 c =
    agrees_named (both c.self.inside.opening) c.self.inside.key_files.items c.insert.new.self.items c.self.inside.log.calls c.self.inside.outputs.items c.self.inside.opened c.self.inside.file_0 c.self.inside.file_1
    c.self.invariant
