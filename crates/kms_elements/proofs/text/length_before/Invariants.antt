use Rattle.std.proofs.Common.{◌≡◌, ◌+◌, length}
use Rattle.kms_elements.specs.Elements.{length_before}
use Rattle.kms_elements.proofs.text.length_before.Given as goal

abbrev pub invariant-loop-rest : goal.invariant-loop-rest
invariant-loop-rest l = record {
  value : length_before l.end l.bytes ≡ l.count + length_before l.end l.rest;
  bound : l.count + length l.rest ≡ length l.bytes;
}

abbrev pub decreases-loop-rest : goal.decreases-loop-rest
decreases-loop-rest l = length l.rest
