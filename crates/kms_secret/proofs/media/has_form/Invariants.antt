use Rattle.std.proofs.Common.{◌≡◌, drop}
use Rattle.kms_secret.specs.Media.{has_form}
use Rattle.kms_secret.proofs.media.has_form.Given as goal

abbrev pub invariant-loop-b : goal.invariant-loop-b
invariant-loop-b l = has_form l.rest (drop l.b-index l.text) ≡ has_form l.form l.text
