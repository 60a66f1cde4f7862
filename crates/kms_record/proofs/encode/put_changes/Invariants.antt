use Rattle.std.proofs.Common.{◌≡◌, ◌++◌, take}
use Rattle.std.specs.List.{flat_map, AllByRecursion}
use Rattle.kms_record.specs.Grammar.{change_bytes, IsChange}
use Rattle.kms_record.proofs.encode.put_changes.Given as goal

abbrev pub invariant-loop-change : goal.invariant-loop-change
invariant-loop-change l = (l.out ≡ l.fn.out ++ flat_map change_bytes (take l.change-index l.changes)) × AllByRecursion IsChange (take l.change-index l.changes)
