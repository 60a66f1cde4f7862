use Rattle.std.proofs.Common.{◌≡◌, ◌+◌, min, take}
use Rattle.kms_http.specs.Framing as spec
use Rattle.kms_http.proofs.framing.number.Given as goal

abbrev pub invariant-loop-b : goal.invariant-loop-b
invariant-loop-b l = l.value ≡ min (spec.number 0 (take l.b-index l.digits)) (spec.body_limit + 1)
