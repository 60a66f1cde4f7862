use Rattle.std.proofs.Common.{◌≡◌, drop}
use Rattle.kms_page.specs.Order as spec
use Rattle.kms_page.proofs.order.row_cmp.Given as goal

abbrev pub invariant-loop-sort : goal.invariant-loop-sort
invariant-loop-sort l = spec.row_cmp (drop l.sort-index l.sorts) l.a l.b ≡ spec.row_cmp l.sorts l.a l.b
