use Rattle.kms_record.specs.Fields.{text_bytes}
use Rattle.kms_record.specs.Acl.{IsUserTyped}
use Rattle.kms_record.proofs.WindowLaws.{none_written, one_more_written}
use Rattle.kms_record.proofs.acl.write_each_user.Goals as goal

pub loop-user-init : goal.loop-user-init
loop-user-init c = none_written text_bytes IsUserTyped c.args.out.now

pub loop-user-preserved : goal.loop-user-preserved
loop-user-preserved c =
    one_more_written text_bytes IsUserTyped c.args.out.now c.loop-user.out c.name.new.out c.args.users.now c.loop-user.user-index c.user-item.result c.loop-user-test.true c.user-item.is
    c.loop-user.invariant c.name.ensures.spelled c.name.ensures.is_name
