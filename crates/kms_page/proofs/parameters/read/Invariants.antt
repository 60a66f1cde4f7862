use Rattle.std.proofs.Common.{◌≡◌, ◌++◌, map}
use Rattle.form_urlencoded.specs.Parse.{owned_pairs_left}
use Rattle.kms_page.specs.Parameters.{decoded, parameters_of}
use Rattle.kms_page.proofs.parameters.read.Given as goal

abbrev pub invariant-loop-pair : goal.invariant-loop-pair
invariant-loop-pair l =
    l.parameters ++ map (λ p. (decoded p.0, decoded p.1)) (owned_pairs_left l.pair-iterator) ≡ parameters_of l.text
