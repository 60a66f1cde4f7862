use Rattle.std.proofs.Common.{◌≡◌, ◌<◌, ◌^◌, ◌++◌, map}
use Rattle.std.specs.List.{AllByRecursion}
use Rattle.std.specs.Vec.Iter.{into_iter_items}
use Rattle.kms_record.specs.ChangeEffect.{row_member}
use Rattle.kms_record.specs.Container.{IsMemberInRange}
use Rattle.kms_record.proofs.member.MemberList.into_secrets.Given as goal

-- what is done and what is left make up all
abbrev pub invariant-loop-member : goal.invariant-loop-member
invariant-loop-member l =
    let rest = into_iter_items l.member-iterator in
    (l.tag < 2 ^ 60) × (l.tag ≡ l.fn.tag) × (l.secrets ++ map (row_member l.fn.tag) rest ≡ map (row_member l.fn.tag) l.fn.self) × AllByRecursion IsMemberInRange rest
