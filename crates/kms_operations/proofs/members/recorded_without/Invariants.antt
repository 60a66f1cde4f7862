use Rattle.std.proofs.Common.{◌≡◌, map, take}
use Rattle.kms_model.specs.Containers.{members_without}
use Rattle.kms_record.specs.Base.{member_of}
use Rattle.kms_operations.proofs.members.recorded_without.Given as goal

abbrev pub invariant-loop-other : goal.invariant-loop-other
invariant-loop-other l = l.list ≡ map member_of (members_without l.member (take l.other-index l.members))
