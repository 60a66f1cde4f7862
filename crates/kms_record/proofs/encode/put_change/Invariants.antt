use Rattle.std.proofs.Common.{◌-◌}
use Rattle.kms_record.specs.Grammar.{change_bytes}
use Rattle.kms_record.proofs.WindowLaws.{IsOut}
use Rattle.kms_record.proofs.encode.put_change.Given as goal

abbrev pub invariant-loop-from : goal.invariant-loop-from
invariant-loop-from l = IsOut l.fn.out l.out l.from (change_bytes l.change)

abbrev pub decreases-loop-from : goal.decreases-loop-from
decreases-loop-from l = l.len - l.from
