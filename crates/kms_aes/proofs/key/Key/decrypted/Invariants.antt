use Rattle.std.proofs.Common.{◌≡◌}
use Rattle.kms_aes.proofs.RoundLaws.{finished}
use Rattle.kms_aes.proofs.key.Key.decrypted.Given as goal

abbrev pub invariant-loop-done : goal.invariant-loop-done
invariant-loop-done l = finished l.self l.done l.state ≡ l.block
