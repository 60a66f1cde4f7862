use Rattle.std.proofs.Common.{codes, option_map}
use Rattle.kms_json.proofs.TokenLaws.{one, then, then_optional}
use Rattle.kms_json.specs.Order.{cause_of, reason_data, code_data, later_members}
use Rattle.kms_json.specs.Tokens.{with_optional}
use Rattle.kms_json.proofs.order.write_order.Goals as goal

pub returns : goal.returns
returns c =
    let why = c.args.row.now.state in
    let later = later_members c.args.endpoint.now c.args.row.now in
    let code = then_optional (codes "error_status_code") (option_map code_data (cause_of why)) later c.in_ok-put_code.ensures c.in_ok-put_later.ensures in
    let reason = then_optional (codes "error_reason") (option_map reason_data (cause_of why)) (with_optional (codes "error_status_code") (option_map code_data (cause_of why)) later) c.in_ok-put_reason.ensures code in
    rw c.as_str.ensures at (then (one c.in_ok-begin_object.ensures) (then c.in_ok-put_time.ensures (then c.in_ok-put_text.ensures reason)))
