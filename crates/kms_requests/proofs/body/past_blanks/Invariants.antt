use Rattle.std.proofs.Common.{◌≡◌, length}
use Rattle.kms_requests.specs.Body.{past_blanks}
use Rattle.kms_requests.proofs.body.past_blanks.Given as goal

abbrev pub invariant-loop-rest : goal.invariant-loop-rest
invariant-loop-rest l = past_blanks l.bytes ≡ past_blanks l.rest

abbrev pub decreases-loop-rest : goal.decreases-loop-rest
decreases-loop-rest l = length l.rest
