use Rattle.std.proofs.Common.{length}
use Rattle.kms_ring.proofs.KeyFileLaws.{Reads}
use Rattle.kms_ring.proofs.ring.Ring.read.Given as goal

abbrev pub invariant-loop-behind : goal.invariant-loop-behind
invariant-loop-behind l = Reads l.fn.text l.keys l.rest

-- a line is taken off what is left
abbrev pub decreases-loop-behind : goal.decreases-loop-behind
decreases-loop-behind l = length l.rest
