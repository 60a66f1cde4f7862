use Rattle.std.proofs.Common.{◌≤◌, length, subst, sym}
use Rattle.kms_host.specs.Disk.{Disk}
use Rattle.kms_host.specs.File.{disk_of}
use Rattle.kms_host.proofs.FileLaws.{sound_done, sound_not}
use Rattle.kms_host.proofs.memory.file.File.write.Goals.{in-Ok, in-Err}
use Rattle.kms_host.proofs.memory.file.File.write.Goals as goal

pub invariant_of-self-2 : goal.invariant_of-self-2
invariant_of-self-2 c =
    let d : Disk = disk_of c.self.inside in
    let more = c.in_ok-insert.ensures.items in
    let within = subst (λ (d : Disk). c.args.at ≤ length d.reads) (sym c.self.view_is) c.requires.within in
    elim c.match-write_over.branch [
      | in-Ok w ↦ sound_done d c.args.at c.args.piece.now _ _ _ w.in-Ok.ensures.ok more c.max-self-inside.ensures within (c.requires.short c.if-refused.false) c.self.invariant
      | in-Err w ↦ sound_not d c.args.at c.args.piece.now _ _ _ w.in-Err.ensures.err more c.max-self-inside.ensures c.self.invariant
    ]
