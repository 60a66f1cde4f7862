use Rattle.std.proofs.Common.{◌≡◌, ◌+◌, ◌-◌, ◌≤◌, ◌<◌, ◌^◌, length, take, drop, false}
use Rattle.std.specs.Prelude.{Ok}
use Rattle.kms_host.specs.Faults.{NeverFalls}
use Rattle.kms_host.specs.History.{Tells, WhereTold, Stops}
use Rattle.kms_journal.specs.Fault.{Fails}
use Rattle.kms_journal.specs.Renewal.{IsEnd, Appends}
use Rattle.kms_journal.specs.declared.fault.StoreFault.{StoreFault}
use Rattle.kms_journal.proofs.renewal.append_pieces.Given as goal

abbrev pub invariant-loop-done : goal.invariant-loop-done
invariant-loop-done g l = record {
  told : Tells (g.H.Host.history l.fn.host) (g.H.Host.history l.host) (Appends {T = Unit {0}} {E = StoreFault} l.file (take l.done (g.P.Pieces.left l.fn.pieces)) (Ok tt));
  left : g.P.Pieces.left l.pieces ≡ drop l.done (g.P.Pieces.left l.fn.pieces);
  end : WhereTold (g.H.Host.history l.host) (IsEnd l.file (l.end + l.done));
  within : l.done ≤ l.size;
  most : l.end + l.done < 2 ^ 62;
  room : 0 < length l.room;
  later : NeverFalls (g.H.Host.faults l.fn.host) (g.H.Host.faults l.host);
  failed : Tells (g.H.Host.history l.fn.host) (g.H.Host.history l.host) (Fails false);
  stops : Stops (g.H.Host.wanted l.fn.host) (g.H.Host.wanted l.host) (g.H.Host.history l.fn.host) (g.H.Host.history l.host);
}

abbrev pub decreases-loop-done : goal.decreases-loop-done
decreases-loop-done g l = l.size - l.done
