use Rattle.std.proofs.Common.{◌≡◌, ℕ, ◌+◌, ◌-◌, List, Option, length}
use Rattle.kms_host.specs.History.{History, WhereTold, Stops}
use Rattle.kms_host.specs.Faults.{NeverFalls}
use Rattle.kms_core.specs.Steps.{IsIdle, IsWorking}
use Rattle.kms_serve.specs.Turns.{Good, IsBounded, CanServe, serving_of, fed}
use Rattle.kms_serve.proofs.line.serve_line.Given as goal

abbrev pub invariant-loop-status : goal.invariant-loop-status
invariant-loop-status g l = record {
  good : (key_file store : List ℕ) (start : Option History) → Good l.endpoint key_file store start (g.H.Host.history l.initial.host) (serving_of l.fn.engine)
      → Good l.endpoint key_file store start (g.H.Host.history l.host) l.s;
  idle : IsIdle l.s.engine;
  working : IsWorking l.s.engine;
  ready : WhereTold (g.H.Host.history l.host) (CanServe l.s.engine);
  bounded : IsBounded l.s;
  room : length l.room.items ≡ 65536;
  stops : Stops (g.H.Host.wanted l.initial.host) (g.H.Host.wanted l.host) (g.H.Host.history l.initial.host) (g.H.Host.history l.host);
  later : NeverFalls (g.H.Host.faults l.initial.host) (g.H.Host.faults l.host);
}

-- each turn answers a message or takes a byte, and a line has no more of both than these
abbrev pub decreases-loop-status : goal.decreases-loop-status
decreases-loop-status g l = 819210147456 - (l.s.count + fed l.s)
