use Rattle.std.proofs.Common.{◌≡◌, map, take}
use Rattle.kms_record.specs.Base.{member_of}
use Rattle.kms_operations.proofs.container_put.all_recorded.Given as goal

abbrev pub invariant-loop-member : goal.invariant-loop-member
invariant-loop-member l = l.list ≡ map member_of (take l.member-index l.members)
