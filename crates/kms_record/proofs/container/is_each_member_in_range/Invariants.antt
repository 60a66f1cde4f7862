use Rattle.std.proofs.Common.{take}
use Rattle.std.specs.List.{AllByRecursion}
use Rattle.kms_record.specs.Container.{IsMemberInRange}
use Rattle.kms_record.proofs.container.is_each_member_in_range.Given as goal

abbrev pub invariant-loop-member : goal.invariant-loop-member
invariant-loop-member l = AllByRecursion IsMemberInRange (take l.member-index l.members)
