use Rattle.std.proofs.Common.{◌≡◌, ◌-◌, take, length}
use Rattle.kms_aes.specs.KeyExpansion.{first_words}
use Rattle.kms_aes.proofs.schedule.key_words.Given as goal

abbrev pub invariant-loop-i : goal.invariant-loop-i
invariant-loop-i l = record {
  len : length l.words ≡ 44;
  done : take l.i l.words ≡ first_words l.key (l.i - 4);
}
