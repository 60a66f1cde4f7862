use Rattle.kms_host.specs.Memory.{both}
use Rattle.kms_host.proofs.AgreeLaws.{agrees_on_0, agrees_on_1}
use Rattle.kms_host.proofs.memory.calls.MemoryHostHost.sync.Goals as goal

pub invariant_of-self : goal.invariant_of-self
invariant_of-self c =
    agrees_on_0 (both c.self.inside.opening) c.self.inside.key_files.items c.self.inside.log c.sync.new.log c.self.inside.outputs.items c.self.inside.opened c.self.inside.file_0 c.self.inside.file_1 c.sync.new.kept _ _
    c.sync.ensures.notes c.self.invariant (λ was told here. tt)

pub invariant_of-self-else-file-eq0 : goal.invariant_of-self-else-file-eq0
invariant_of-self-else-file-eq0 c =
    agrees_on_1 (both c.self.inside.opening) c.self.inside.key_files.items c.self.inside.log c.sync-else-file-eq0.new.log c.self.inside.outputs.items c.self.inside.opened c.self.inside.file_0 c.self.inside.file_1 c.sync-else-file-eq0.new.kept _ _
    c.sync-else-file-eq0.ensures.notes c.self.invariant (λ was told here. tt)
