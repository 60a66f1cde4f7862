use Rattle.std.proofs.Common.{◌≡◌, ℕ, ◌<◌, length, get_or}
use Rattle.kms_host.specs.File.{torn_byte}
use Rattle.kms_host.proofs.memory.file.File.torn.Given as goal

abbrev pub invariant-loop-at : goal.invariant-loop-at
invariant-loop-at l = record {
  count : length l.image.items ≡ l.at;
  bytes : (k : ℕ) → k < length l.image.items → get_or l.image.items k 0 ≡ torn_byte l.value l.self k;
}
