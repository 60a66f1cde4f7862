use Rattle.std.proofs.Common.{◌≡◌, ◌-◌}
use Rattle.kms_aes.specs.Cipher.{after_rounds}
use Rattle.kms_aes.proofs.key.Key.encrypted.Given as goal

abbrev pub invariant-loop-round : goal.invariant-loop-round
invariant-loop-round l = l.state ≡ after_rounds l.self l.block (l.round - 1)
