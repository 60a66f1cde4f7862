use Rattle.std.proofs.Common.{take}
use Rattle.kms_record.specs.Container.{member_bytes, IsMemberTyped}
use Rattle.kms_record.proofs.WindowLaws.{IsWritten}
use Rattle.kms_record.proofs.container.write_each_member.Given as goal

abbrev pub invariant-loop-member : goal.invariant-loop-member
invariant-loop-member l = IsWritten member_bytes IsMemberTyped l.fn.out l.out (take l.member-index l.members)
