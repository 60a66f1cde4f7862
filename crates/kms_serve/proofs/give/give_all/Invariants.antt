use Rattle.std.proofs.Common.{length}
use Rattle.kms_host.specs.History.{WhereTold, Stops}
use Rattle.kms_host.specs.Line.{IsOpen}
use Rattle.kms_host.specs.Faults.{NeverFalls}
use Rattle.kms_host.specs.Moment.{Since}
use Rattle.kms_serve.proofs.GiveLaws.{Giving}
use Rattle.kms_serve.proofs.give.give_all.Given as goal

abbrev pub invariant-loop-rest : goal.invariant-loop-rest
invariant-loop-rest g l = record {
  given : Since (g.H.Host.history l.initial.host) (g.H.Host.history l.host) (λ was calls. Giving l.line l.bytes l.rest calls);
  unshut : WhereTold (g.H.Host.history l.host) (IsOpen l.line);
  stops : Stops (g.H.Host.wanted l.initial.host) (g.H.Host.wanted l.host) (g.H.Host.history l.initial.host) (g.H.Host.history l.host);
  later : NeverFalls (g.H.Host.faults l.initial.host) (g.H.Host.faults l.host);
}

abbrev pub decreases-loop-rest : goal.decreases-loop-rest
decreases-loop-rest g l = length l.rest
