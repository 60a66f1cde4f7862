use Rattle.std.proofs.Common.{take}
use Rattle.std.specs.List.{AllByRecursion}
use Rattle.kms_record.specs.Acl.{IsUserInRange}
use Rattle.kms_record.proofs.acl.is_each_user_in_range.Given as goal

abbrev pub invariant-loop-user : goal.invariant-loop-user
invariant-loop-user l = AllByRecursion IsUserInRange (take l.user-index l.users)
