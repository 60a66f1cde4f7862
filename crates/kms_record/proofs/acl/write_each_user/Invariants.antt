use Rattle.std.proofs.Common.{take}
use Rattle.kms_record.specs.Fields.{text_bytes}
use Rattle.kms_record.specs.Acl.{IsUserTyped}
use Rattle.kms_record.proofs.WindowLaws.{IsWritten}
use Rattle.kms_record.proofs.acl.write_each_user.Given as goal

abbrev pub invariant-loop-user : goal.invariant-loop-user
invariant-loop-user l = IsWritten text_bytes IsUserTyped l.fn.out l.out (take l.user-index l.users)
