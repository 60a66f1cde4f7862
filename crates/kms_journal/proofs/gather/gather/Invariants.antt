use Rattle.std.proofs.Common.{◌-◌, ◌<◌, ◌≤◌, false}
use Rattle.kms_host.specs.Faults.{NeverFalls}
use Rattle.kms_host.specs.History.{Tells, WhereTold, Stops}
use Rattle.kms_host.specs.Store.{IsAttached}
use Rattle.kms_journal.specs.Fault.{Fails}
use Rattle.kms_journal.proofs.WalkLaws.{WalksSoFar}
use Rattle.kms_journal.proofs.gather.gather.Given as goal

abbrev pub invariant-records : goal.invariant-records
invariant-records g l = record {
  told : Tells (g.H.Host.history l.fn.host) (g.H.Host.history l.host) (WalksSoFar l.file l.size l.start l.place l.fn.buffer l.buffer l.bodies);
  attached : WhereTold (g.H.Host.history l.host) IsAttached;
  from : l.start ≤ l.place;
  within : l.place < l.size;
  later : NeverFalls (g.H.Host.faults l.fn.host) (g.H.Host.faults l.host);
  failed : Tells (g.H.Host.history l.fn.host) (g.H.Host.history l.host) (Fails false);
  stops : Stops (g.H.Host.wanted l.fn.host) (g.H.Host.wanted l.host) (g.H.Host.history l.fn.host) (g.H.Host.history l.host);
}

abbrev pub decreases-records : goal.decreases-records
decreases-records g l = l.size - l.place
