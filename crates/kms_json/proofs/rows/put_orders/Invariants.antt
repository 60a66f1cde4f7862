use Rattle.std.proofs.Common.{map, drop}
use Rattle.kms_json.specs.Order.{order_data}
use Rattle.kms_json.specs.Tokens.{IsLeft, items_tokens}
use Rattle.kms_json.proofs.rows.put_orders.Given as goal

abbrev pub invariant-loop-row : goal.invariant-loop-row
invariant-loop-row l = IsLeft l.fn.out l.out (items_tokens (map (order_data l.endpoint) (drop l.row-index l.rows))) (items_tokens (map (order_data l.endpoint) l.rows))
