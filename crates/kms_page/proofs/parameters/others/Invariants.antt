use Rattle.std.proofs.Common.{◌≡◌, take}
use Rattle.kms_page.specs.Query.{others_of}
use Rattle.kms_page.proofs.parameters.others.Given as goal

abbrev pub invariant-loop-parameter : goal.invariant-loop-parameter
invariant-loop-parameter l = l.others ≡ others_of (take l.parameter-index l.parameters)
