use Rattle.std.proofs.Common.{ℕ, List, Option, map, not, ap, ◌∙◌}
use Rattle.kms_model.specs.Containers.{is_member, members_without}
use Rattle.kms_record.specs.Base.{member_of}
use Rattle.kms_world.specs.declared.id.Id.{Id}
use Rattle.kms_operations.proofs.MemberLaws.{but_one, in_range_without, made_fits, made_row, own_back, own_range}
use Rattle.kms_operations.proofs.members.put_without.Goals as goal

pub returns-clause-row : goal.returns-clause-row
returns-clause-row c =
    let kept = c.args.rows.now.kept in
    let row = c.args.row.now in
    let member = c.args.member.now in
    made_row kept row (members_without member row.secrets) c.in_ok-members.members c.args.moment c.put_of.result c.requires.kept
    (c.in_ok-members.ensures ∙ ap (λ (l : List (Option (List ℕ) × Id)). map member_of (members_without member l)) c.as_slice.ensures)
    (but_one kept.state.tag (λ (m : Option (List ℕ) × Id). not (is_member member m)) row.secrets (own_back kept row c.requires.kept)) c.put_of.ensures

pub returns-clause-fits : goal.returns-clause-fits
returns-clause-fits c =
    let kept = c.args.rows.now.kept in
    let row = c.args.row.now in
    let member = c.args.member.now in
    made_fits kept row (members_without member row.secrets) c.in_ok-members.members c.args.moment c.put_of.result c.requires.kept c.requires.time
    (c.in_ok-members.ensures ∙ ap (λ (l : List (Option (List ℕ) × Id)). map member_of (members_without member l)) c.as_slice.ensures)
    (in_range_without (λ (m : Option (List ℕ) × Id). not (is_member member m)) row.secrets (own_range kept row c.requires.kept)) c.put_of.ensures
