use Rattle.std.proofs.Common.{codes, option_map}
use Rattle.serde_json.specs.Data.{member}
use Rattle.kms_page.specs.Page.{next_offset, previous_offset}
use Rattle.kms_json.proofs.TokenLaws.{then, then_optional}
use Rattle.kms_json.specs.List.{name_of, rows_data, page_link, total_members}
use Rattle.kms_json.specs.Tokens.{with_optional}
use Rattle.kms_json.proofs.list.put_rows_between.Goals as goal

pub returns : goal.returns
returns c =
    let link = page_link c.args.endpoint.now c.args.path.now c.args.query.now in
    let next = option_map link (next_offset c.args.query.now c.args.total) in
    let previous = option_map link (previous_offset c.args.query.now) in
    let total = total_members c.args.total in
    then_optional (codes "next") next (member (name_of c.args.rows.now) (rows_data c.args.endpoint.now c.args.rows.now) (with_optional (codes "previous") previous total)) (rw c.next_offset-next.ensures at c.in_ok-put_page.ensures) (then c.in_ok-put_rows.ensures (then_optional (codes "previous") previous total (rw c.previous_offset-previous.ensures at c.in_ok-put_page-2.ensures) c.in_ok-put_total.ensures))
