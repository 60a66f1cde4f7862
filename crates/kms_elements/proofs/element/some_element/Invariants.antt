use Rattle.std.proofs.Common.{◌≡◌, ◌≤◌, length}
use Rattle.std.specs.List.{list_any}
use Rattle.kms_elements.specs.Elements.{elements}
use Rattle.kms_elements.proofs.element.some_element.Given as goal

abbrev pub invariant-loop-rest : goal.invariant-loop-rest
invariant-loop-rest g l = record {
  value : list_any (g.T.ElementTest.admits l.test) (elements l.value) ≡ list_any (g.T.ElementTest.admits l.test) (elements l.rest);
  bound : length l.rest ≤ length l.value;
}

abbrev pub decreases-loop-rest : goal.decreases-loop-rest
decreases-loop-rest g l = length l.rest
