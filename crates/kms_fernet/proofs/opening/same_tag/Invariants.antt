use Rattle.std.proofs.Common.{◌≡◌, take}
use Rattle.kms_fernet.proofs.opening.same_tag.Given as goal

abbrev pub invariant-loop-i : goal.invariant-loop-i
invariant-loop-i l = record {
  same : l.difference ≡ 0 → take l.i l.tag ≡ take l.i l.other;
  none : take l.i l.tag ≡ take l.i l.other → l.difference ≡ 0;
}
