use Rattle.std.proofs.Common.{◌≡◌, take, false}
use Rattle.kms_http.specs.Framing.{any_closes}
use Rattle.kms_http.proofs.close.any_closes.Given as goal

abbrev pub invariant-loop-place : goal.invariant-loop-place
invariant-loop-place l = any_closes (take l.place l.fields) ≡ false
