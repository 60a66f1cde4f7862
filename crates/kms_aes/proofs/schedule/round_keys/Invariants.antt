use Rattle.std.proofs.Common.{◌≡◌, ℕ, ◌<◌, [], get_or, length}
use Rattle.kms_aes.specs.KeyExpansion.{round_key}
use Rattle.kms_aes.proofs.schedule.round_keys.Given as goal

abbrev pub invariant-loop-round : goal.invariant-loop-round
invariant-loop-round l = record {
  len : length l.keys ≡ 11;
  done : (k : ℕ) → k < l.round → get_or l.keys k [] ≡ round_key l.key k;
}
