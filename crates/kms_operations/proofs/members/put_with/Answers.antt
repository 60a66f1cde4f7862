use Rattle.std.proofs.Common.{ℕ, List, ◌++◌, ◌∷◌, [], Option, map, ap, ◌∙◌}
use Rattle.kms_record.specs.Base.{member_of}
use Rattle.kms_world.specs.declared.id.Id.{Id}
use Rattle.kms_operations.proofs.MemberLaws.{in_range_with, is_taken, made_fits, made_row, own_back, own_range, with_one}
use Rattle.kms_operations.proofs.members.put_with.Goals as goal

pub returns-clause-row : goal.returns-clause-row
returns-clause-row c =
    let kept = c.args.rows.now.kept in
    let row = c.args.row.now in
    let member = c.args.member.now in
    let taken = is_taken kept c.args.caller.now row member c.args.moment c.see.ensures c.requires.takes in
    made_row kept row (row.secrets ++ member ∷ []) c.in_ok-members.members c.args.moment c.put_of.result c.requires.kept
    (c.in_ok-members.ensures ∙ ap (λ (l : List (Option (List ℕ) × Id)). map member_of (l ++ member ∷ [])) c.as_slice.ensures)
    (with_one kept.state.tag row.secrets member (own_back kept row c.requires.kept) taken.back) c.put_of.ensures

pub returns-clause-fits : goal.returns-clause-fits
returns-clause-fits c =
    let kept = c.args.rows.now.kept in
    let row = c.args.row.now in
    let member = c.args.member.now in
    let taken = is_taken kept c.args.caller.now row member c.args.moment c.see.ensures c.requires.takes in
    made_fits kept row (row.secrets ++ member ∷ []) c.in_ok-members.members c.args.moment c.put_of.result c.requires.kept c.requires.time
    (c.in_ok-members.ensures ∙ ap (λ (l : List (Option (List ℕ) × Id)). map member_of (l ++ member ∷ [])) c.as_slice.ensures)
    (in_range_with row.secrets member (own_range kept row c.requires.kept) taken.few c.requires.range) c.put_of.ensures
