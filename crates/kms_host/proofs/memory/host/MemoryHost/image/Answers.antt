use Rattle.std.proofs.Common.{sym}
use Rattle.kms_host.specs.Memory.{both}
use Rattle.kms_host.proofs.AgreeLaws.{image_is}
use Rattle.kms_host.proofs.memory.host.MemoryHost.image.Goals as goal

pub returns-clause-image : goal.returns-clause-image
returns-clause-image c =
    rw (← c.self.view_is)
    (image_is (both c.self.inside.opening) c.self.inside.key_files.items c.self.inside.log.calls c.self.inside.outputs.items c.self.inside.opened c.self.inside.file_0 c.self.inside.file_1 c.in_ok-file_0.file_0 c.in_ok-file_1.file_1 (sym c.if-not-tells.ensures)
    c.self.invariant c.in_ok-file_0.ensures.image c.in_ok-file_1.ensures.image)
