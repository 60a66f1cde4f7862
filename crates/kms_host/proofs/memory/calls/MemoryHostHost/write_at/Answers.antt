use Rattle.std.proofs.Common.{◌≡◌, ap, arith}
use Rattle.kms_host.specs.Memory.{both}
use Rattle.kms_host.specs.Memory.{MemoryState}
use Rattle.kms_host.proofs.AgreeLaws.{wrote_on}
use Rattle.kms_host.proofs.AgreeLaws.{agrees_on_0, agrees_on_1, tells_on_0, tells_on_1, lies_within}
use Rattle.kms_host.proofs.memory.calls.MemoryHostHost.write_at.Goals as goal

pub invariant_of-self : goal.invariant_of-self
invariant_of-self c =
    agrees_on_0 (both c.self.inside.opening) c.self.inside.key_files.items c.self.inside.log c.write.new.log c.self.inside.outputs.items c.self.inside.opened c.self.inside.file_0 c.self.inside.file_1 c.write.new.kept _ _
    c.write.ensures.notes c.self.invariant (lies_within (both c.self.inside.opening) c.self.inside.key_files.items c.args.file 0 c.args.at c.self.inside.log c.self.inside.file_0 c.args.self.now.history (ap (λ (m : MemoryState). m.history) c.self.view_is) c.if-file-eq0.true c.requires.within)

pub returns-then-file-eq0-clause-told : goal.returns-then-file-eq0-clause-told
returns-then-file-eq0-clause-told c =
    let is : c.args.file ≡ 0 = c.if-file-eq0.true in
    rw (← c.self.view_is, is)
    (tells_on_0 (both c.self.inside.opening) c.self.inside.key_files.items c.self.inside.log c.write.new.log c.self.inside.outputs.items c.self.inside.opened c.self.inside.file_0 c.self.inside.file_1 c.write.new.kept _ _ _
    c.write.ensures.notes c.self.invariant (lies_within (both c.self.inside.opening) c.self.inside.key_files.items c.args.file 0 c.args.at c.self.inside.log c.self.inside.file_0 c.args.self.now.history (ap (λ (m : MemoryState). m.history) c.self.view_is) c.if-file-eq0.true c.requires.within)
    (wrote_on 0 c.self.inside.file_0 c.args.at c.args.piece.now c.write.result))

pub invariant_of-self-else-file-eq0 : goal.invariant_of-self-else-file-eq0
invariant_of-self-else-file-eq0 c =
    agrees_on_1 (both c.self.inside.opening) c.self.inside.key_files.items c.self.inside.log c.write-else-file-eq0.new.log c.self.inside.outputs.items c.self.inside.opened c.self.inside.file_0 c.self.inside.file_1 c.write-else-file-eq0.new.kept _ _
    c.write-else-file-eq0.ensures.notes c.self.invariant (lies_within (both c.self.inside.opening) c.self.inside.key_files.items c.args.file 1 c.args.at c.self.inside.log c.self.inside.file_1 c.args.self.now.history (ap (λ (m : MemoryState). m.history) c.self.view_is) (omega (arith, c.requires.file, c.if-file-eq0.false)) c.requires.within)

pub returns-else-file-eq0-clause-told : goal.returns-else-file-eq0-clause-told
returns-else-file-eq0-clause-told c =
    let is : c.args.file ≡ 1 = (omega (arith, c.requires.file, c.if-file-eq0.false)) in
    rw (← c.self.view_is, is)
    (tells_on_1 (both c.self.inside.opening) c.self.inside.key_files.items c.self.inside.log c.write-else-file-eq0.new.log c.self.inside.outputs.items c.self.inside.opened c.self.inside.file_0 c.self.inside.file_1 c.write-else-file-eq0.new.kept _ _ _
    c.write-else-file-eq0.ensures.notes c.self.invariant (lies_within (both c.self.inside.opening) c.self.inside.key_files.items c.args.file 1 c.args.at c.self.inside.log c.self.inside.file_1 c.args.self.now.history (ap (λ (m : MemoryState). m.history) c.self.view_is) (omega (arith, c.requires.file, c.if-file-eq0.false)) c.requires.within)
    (wrote_on 1 c.self.inside.file_1 c.args.at c.args.piece.now c.write-else-file-eq0.result))
