use Rattle.kms_record.specs.Container.{member_bytes, IsMemberTyped}
use Rattle.kms_record.proofs.WindowLaws.{none_written, one_more_written}
use Rattle.kms_record.proofs.container.write_each_member.Goals as goal

pub loop-member-init : goal.loop-member-init
loop-member-init c = none_written member_bytes IsMemberTyped c.args.out.now

pub loop-member-preserved : goal.loop-member-preserved
loop-member-preserved c =
    one_more_written member_bytes IsMemberTyped c.args.out.now c.loop-member.out c.write_member.new.out c.args.members.now c.loop-member.member-index c.member-item.result c.loop-member-test.true c.member-item.is
    c.loop-member.invariant c.write_member.ensures.spelled c.write_member.ensures.typed
