use Rattle.std.proofs.Common.{◌≡◌, ◌≤◌, take}
use Rattle.std.specs.Prelude.{count_by}
use Rattle.kms_box.specs.Names as spec
use Rattle.kms_box.proofs.names.count.Given as goal

abbrev pub invariant-loop-member : goal.invariant-loop-member
invariant-loop-member l = record {
  counted : l.count ≡ count_by (spec.is_named l.name) (take l.member-index l.members);
  few : l.count ≤ l.member-index;
}
