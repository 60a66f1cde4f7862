use Rattle.kms_ring.proofs.RingLaws.{NoneOf}
use Rattle.kms_ring.proofs.ring.Ring.unwrap.Given as goal

abbrev pub invariant-loop-master : goal.invariant-loop-master
invariant-loop-master l = NoneOf l.master-items l.wrapped l.master-index
