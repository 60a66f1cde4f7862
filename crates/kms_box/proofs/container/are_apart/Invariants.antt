use Rattle.std.proofs.Common.{◌≡◌, ◌==◌, ℕ, true, map, take}
use Rattle.std.specs.BTreeSet.{contains}
use Rattle.std.specs.List.{list_any}
use Rattle.std.specs.Ordering.{nat_cmp}
use Rattle.kms_box.specs.Container.{are_apart}
use Rattle.kms_box.proofs.container.are_apart.Given as goal

abbrev pub invariant-loop-member : goal.invariant-loop-member
invariant-loop-member l = record {
  seen : (q : ℕ) → contains nat_cmp l.seen q ≡ list_any (λ n. q == n) (map (λ m. m.1.0) (take l.member-index l.members));
  apart : are_apart (map (λ m. m.1.0) (take l.member-index l.members)) ≡ true;
}
