use Rattle.std.proofs.Common.{◌≡◌, arith}
use Rattle.kms_host.specs.Memory.{both}
use Rattle.kms_host.proofs.AgreeLaws.{measured}
use Rattle.kms_host.proofs.AgreeLaws.{agrees_on_0, agrees_on_1, tells_on_0, tells_on_1}
use Rattle.kms_host.proofs.memory.calls.MemoryHostHost.len.Goals as goal

pub invariant_of-self : goal.invariant_of-self
invariant_of-self c =
    agrees_on_0 (both c.self.inside.opening) c.self.inside.key_files.items c.self.inside.log c.measure.new.log c.self.inside.outputs.items c.self.inside.opened c.self.inside.file_0 c.self.inside.file_1 c.self.inside.file_0 _ _
    c.measure.ensures.notes c.self.invariant (λ was told here. tt)

pub returns-then-file-eq0-clause-told : goal.returns-then-file-eq0-clause-told
returns-then-file-eq0-clause-told c =
    let is : c.args.file ≡ 0 = c.if-file-eq0.true in
    rw (← c.self.view_is, is)
    (tells_on_0 (both c.self.inside.opening) c.self.inside.key_files.items c.self.inside.log c.measure.new.log c.self.inside.outputs.items c.self.inside.opened c.self.inside.file_0 c.self.inside.file_1 c.self.inside.file_0 _ _ _
    c.measure.ensures.notes c.self.invariant (λ was told here. tt)
    (measured 0 c.self.inside.file_0 c.measure.result c.measure.ensures.length))

pub invariant_of-self-else-file-eq0 : goal.invariant_of-self-else-file-eq0
invariant_of-self-else-file-eq0 c =
    agrees_on_1 (both c.self.inside.opening) c.self.inside.key_files.items c.self.inside.log c.measure-else-file-eq0.new.log c.self.inside.outputs.items c.self.inside.opened c.self.inside.file_0 c.self.inside.file_1 c.self.inside.file_1 _ _
    c.measure-else-file-eq0.ensures.notes c.self.invariant (λ was told here. tt)

pub returns-else-file-eq0-clause-told : goal.returns-else-file-eq0-clause-told
returns-else-file-eq0-clause-told c =
    let is : c.args.file ≡ 1 = (omega (arith, c.requires.file, c.if-file-eq0.false)) in
    rw (← c.self.view_is, is)
    (tells_on_1 (both c.self.inside.opening) c.self.inside.key_files.items c.self.inside.log c.measure-else-file-eq0.new.log c.self.inside.outputs.items c.self.inside.opened c.self.inside.file_0 c.self.inside.file_1 c.self.inside.file_1 _ _ _
    c.measure-else-file-eq0.ensures.notes c.self.invariant (λ was told here. tt)
    (measured 1 c.self.inside.file_1 c.measure-else-file-eq0.result c.measure-else-file-eq0.ensures.length))
