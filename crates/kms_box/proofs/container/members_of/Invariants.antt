use Rattle.std.proofs.Common.{◌≡◌, drop}
use Rattle.kms_box.specs.Member.{members_of}
use Rattle.kms_box.proofs.MemberLaws.{after}
use Rattle.kms_box.proofs.container.members_of.Given as goal

abbrev pub invariant-loop-body : goal.invariant-loop-body
invariant-loop-body l = after l.members (members_of (drop l.body-index l.bodies)) ≡ members_of l.bodies
