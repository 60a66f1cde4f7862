use Rattle.std.proofs.Common.{◌≡◌, length}
use Rattle.kms_http.specs.HeadEnd as spec
use Rattle.kms_http.proofs.past.past.Given as goal

abbrev pub invariant-loop-wanted : goal.invariant-loop-wanted
invariant-loop-wanted l = spec.past l.text l.bytes ≡ spec.past l.wanted l.rest

abbrev pub decreases-loop-wanted : goal.decreases-loop-wanted
decreases-loop-wanted l = length l.wanted
