use Rattle.std.proofs.Common.{◌≡◌, ◌≤◌, ◌-◌, ◌++◌, length, take}
use Rattle.kms_store.proofs.spelling.Spelling.give.Given as goal

abbrev pub invariant-loop-at : goal.invariant-loop-at
invariant-loop-at l = record {
  given : take l.at l.room ++ l.self ≡ l.fn.self;
  within : l.at ≤ length l.room;
  same : length l.room ≡ length l.fn.room;
}

abbrev pub decreases-loop-at : goal.decreases-loop-at
decreases-loop-at l = length l.room - l.at
