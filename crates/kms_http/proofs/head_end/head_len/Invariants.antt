use Rattle.std.proofs.Common.{◌≡◌, ◌+◌, length, option_map}
use Rattle.kms_http.specs.HeadEnd as spec
use Rattle.kms_http.proofs.head_end.head_len.Given as goal

abbrev pub invariant-loop-rest : goal.invariant-loop-rest
invariant-loop-rest l = record {
  value : spec.head_len l.bytes ≡ option_map (λ n. n + l.count) (spec.head_len l.rest);
  bound : l.count + length l.rest ≡ length l.bytes;
}

abbrev pub decreases-loop-rest : goal.decreases-loop-rest
decreases-loop-rest l = length l.rest
