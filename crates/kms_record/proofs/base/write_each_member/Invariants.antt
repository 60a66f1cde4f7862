use Rattle.std.proofs.Common.{map, take}
use Rattle.kms_record.specs.Base.{member_of}
use Rattle.kms_record.specs.Container.{member_bytes, IsMemberTyped}
use Rattle.kms_record.proofs.WindowLaws.{IsWritten}
use Rattle.kms_record.proofs.base.write_each_member.Given as goal

abbrev pub invariant-loop-member : goal.invariant-loop-member
invariant-loop-member l = IsWritten member_bytes IsMemberTyped l.fn.out l.out (take l.member-index (map member_of l.members))
