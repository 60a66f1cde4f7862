use Rattle.std.proofs.Common.{codes, option_map}
use Rattle.kms_page.specs.Page.{next_offset, previous_offset}
use Rattle.kms_json.proofs.TokenLaws.{then, then_optional}
use Rattle.kms_json.specs.List.{page_link, total_members}
use Rattle.kms_json.specs.Tokens.{with_optional}
use Rattle.kms_json.proofs.list.put_rows_first.Goals as goal

pub returns : goal.returns
returns c =
    let link = page_link c.args.endpoint.now c.args.path.now c.args.query.now in
    let next = option_map link (next_offset c.args.query.now c.args.total) in
    let previous = option_map link (previous_offset c.args.query.now) in
    let total = total_members c.args.total in
    then c.in_ok-put_rows.ensures (then_optional (codes "next") next (with_optional (codes "previous") previous total) (rw c.next_offset-next.ensures at c.in_ok-put_page.ensures) (then_optional (codes "previous") previous total (rw c.previous_offset-previous.ensures at c.in_ok-put_page-2.ensures) c.in_ok-put_total.ensures))
