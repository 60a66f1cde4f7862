use Rattle.std.proofs.Common.{◌≡◌, ◌<◌, ◌∙◌, ap, sym, arith, map, length, get_or}
use Rattle.std.proofs.lemmas.List.{get_or-map}
use Rattle.kms_record.specs.Base.{member_of}
use Rattle.kms_record.specs.Container.{member_bytes, IsMemberInRange, IsMemberTyped}
use Rattle.kms_record.proofs.MemberLaws.{length_members}
use Rattle.kms_record.proofs.PairwiseLaws.{all_at}
use Rattle.kms_record.proofs.WindowLaws.{none_written, one_more_written}
use Rattle.kms_record.proofs.base.write_each_member.Goals as goal

pub loop-member-init : goal.loop-member-init
loop-member-init c = none_written member_bytes IsMemberTyped c.args.out.now

pub write_member-requires : goal.write_member-requires
write_member-requires c =
    let within : c.loop-member.member-index < length (map member_of c.args.members.now) = omega (arith, length_members c.args.members.now, c.loop-member-test.true) in
    let is : get_or (map member_of c.args.members.now) c.loop-member.member-index (member_of c.member-item.result) ≡ member_of c.member-item.result =
    get_or-map member_of c.args.members.now c.loop-member.member-index c.member-item.result (member_of c.member-item.result) c.loop-member-test.true ∙ ap member_of (sym c.member-item.is) in
    rw is at (all_at IsMemberInRange (map member_of c.args.members.now) c.loop-member.member-index (member_of c.member-item.result) c.requires within)

pub loop-member-preserved : goal.loop-member-preserved
loop-member-preserved c =
    let within : c.loop-member.member-index < length (map member_of c.args.members.now) = omega (arith, length_members c.args.members.now, c.loop-member-test.true) in
    let is : get_or (map member_of c.args.members.now) c.loop-member.member-index (member_of c.member-item.result) ≡ member_of c.member-item.result =
    get_or-map member_of c.args.members.now c.loop-member.member-index c.member-item.result (member_of c.member-item.result) c.loop-member-test.true ∙ ap member_of (sym c.member-item.is) in
    one_more_written member_bytes IsMemberTyped c.args.out.now c.loop-member.out c.write_member.new.out (map member_of c.args.members.now) c.loop-member.member-index (member_of c.member-item.result)
    within (sym is) c.loop-member.invariant c.write_member.ensures.spelled c.write_member.ensures.typed
