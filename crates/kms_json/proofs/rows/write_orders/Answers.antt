use Rattle.std.proofs.Common.{map}
use Rattle.kms_json.specs.Order.{order_data}
use Rattle.kms_json.proofs.TokenLaws.{bracketed, one}
use Rattle.kms_json.proofs.rows.write_orders.Goals as goal

pub returns : goal.returns
returns c = bracketed (map (order_data c.args.endpoint.now) c.args.rows.now) (one c.in_ok-begin_array.ensures) c.in_ok-put_orders.ensures (one c.in_ok-end_array.ensures)
