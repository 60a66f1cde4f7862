use Rattle.std.proofs.Common.{◌≡◌, [], take, drop}
use Rattle.kms_page.specs.Rules as spec
use Rattle.kms_page.proofs.rules.first_fault.Given as goal

abbrev pub invariant-loop-i : goal.invariant-loop-i
invariant-loop-i l =
    spec.first_fault l.listing (take l.i l.parameters) (drop l.i l.parameters) ≡ spec.first_fault l.listing [] l.parameters
