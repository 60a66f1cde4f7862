use Rattle.std.proofs.Common.{◌-◌, ◌≤◌, false}
use Rattle.kms_host.specs.Faults.{NeverFalls}
use Rattle.kms_host.specs.History.{Tells, WhereTold, Stops}
use Rattle.kms_host.specs.Store.{IsAttached}
use Rattle.kms_journal.specs.Fault.{Fails}
use Rattle.kms_journal.proofs.GatherLaws.{ReadsSoFar}
use Rattle.kms_journal.proofs.gather.read_part.Given as goal

abbrev pub invariant-loop-done : goal.invariant-loop-done
invariant-loop-done g l = record {
  told : Tells (g.H.Host.history l.fn.host) (g.H.Host.history l.host) (ReadsSoFar l.file l.at l.size l.done l.fn.buffer l.buffer l.part);
  attached : WhereTold (g.H.Host.history l.host) IsAttached;
  within : l.done ≤ l.size;
  later : NeverFalls (g.H.Host.faults l.fn.host) (g.H.Host.faults l.host);
  failed : Tells (g.H.Host.history l.fn.host) (g.H.Host.history l.host) (Fails false);
  stops : Stops (g.H.Host.wanted l.fn.host) (g.H.Host.wanted l.host) (g.H.Host.history l.fn.host) (g.H.Host.history l.host);
}

abbrev pub decreases-loop-done : goal.decreases-loop-done
decreases-loop-done g l = l.size - l.done
