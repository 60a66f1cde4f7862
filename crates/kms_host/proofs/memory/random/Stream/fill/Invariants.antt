use Rattle.std.proofs.Common.{◌≡◌, ℕ, ◌<◌, length, get_or}
use Rattle.kms_host.specs.Memory.{byte_after}
use Rattle.kms_host.proofs.memory.random.Stream.fill.Given as goal

abbrev pub invariant-loop-place : goal.invariant-loop-place
invariant-loop-place l = record {
  same : length l.room ≡ length l.fn.room;
  bytes : (n : ℕ) → n < l.place → get_or l.room n 0 ≡ byte_after n l.self;
}
