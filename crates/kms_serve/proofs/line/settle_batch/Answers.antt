use Rattle.kms_host.specs.Line.{IsOpen}
use Rattle.kms_host.proofs.Moments.{known_after}
use Rattle.kms_host.proofs.ToldLaws.{uncalled}
use Rattle.std.proofs.Common.{refl}
use Rattle.kms_serve.proofs.PrepareLaws.{placed, settling, open_settling}
use Rattle.kms_serve.proofs.SinceLaws.{since_settled, ready_settled}
use Rattle.kms_serve.proofs.line.settle_batch.Goals as goal

pub settle-requires-clause-placed : goal.settle-requires-clause-placed
settle-requires-clause-placed g c = placed c.args.s.now.engine c.requires.ready

pub returns-clause-settled : goal.returns-clause-settled
returns-clause-settled g c = λ endpoint key_file store start stand reply owing.
    since_settled endpoint key_file store c.args.s.now c.settle.new.self stand reply c.settle.result owing
    (settling c.args.s.now.engine c.settle.new.self c.settle.result c.requires.ready c.settle.ensures.told c.settle.ensures.failed c.settle.ensures.same c.settle.ensures.ok (uncalled g.H.Host.history _ _ _ c.settle.ensures.idle refl))

pub returns-clause-open : goal.returns-clause-open
returns-clause-open g c =
    known_after (IsOpen 0)
    (settling c.args.s.now.engine c.settle.new.self c.settle.result c.requires.ready c.settle.ensures.told c.settle.ensures.failed c.settle.ensures.same c.settle.ensures.ok (uncalled g.H.Host.history _ _ _ c.settle.ensures.idle refl))
    (λ was calls k. open_settling c.args.s.now.engine c.settle.new.self _ was calls k)

pub returns-clause-ready : goal.returns-clause-ready
returns-clause-ready g c =
    ready_settled c.args.s.now.engine c.settle.new.self c.settle.result
    (settling c.args.s.now.engine c.settle.new.self c.settle.result c.requires.ready c.settle.ensures.told c.settle.ensures.failed c.settle.ensures.same c.settle.ensures.ok (uncalled g.H.Host.history _ _ _ c.settle.ensures.idle refl))
