use Rattle.std.proofs.Common.{take}
use Rattle.kms_record.specs.Metadata.{pair_bytes, IsPairTyped}
use Rattle.kms_record.proofs.WindowLaws.{IsWritten}
use Rattle.kms_record.proofs.metadata.write_each_pair.Given as goal

abbrev pub invariant-loop-pair : goal.invariant-loop-pair
invariant-loop-pair l = IsWritten pair_bytes IsPairTyped l.fn.out l.out (take l.pair-index l.pairs)
