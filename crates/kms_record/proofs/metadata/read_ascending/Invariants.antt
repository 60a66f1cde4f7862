use Rattle.std.proofs.Common.{ℕ, ◌-◌, List}
use Rattle.kms_world.specs.Pairs.{is_below}
use Rattle.kms_record.specs.MetadataReading.{pair_at, are_ascending}
use Rattle.kms_record.specs.Reading.{many, passing}
use Rattle.kms_record.proofs.PairwiseLaws.{IsTested}
use Rattle.kms_record.proofs.metadata.read_ascending.Given as goal

abbrev pub invariant-loop : goal.invariant-loop
invariant-loop l = IsTested (λ (p q : List ℕ × List ℕ). is_below p.0 q.0) pair_at l.pairs (l.count - l.counter) l.cursor (passing are_ascending (many pair_at l.count) l.fn.cursor)
