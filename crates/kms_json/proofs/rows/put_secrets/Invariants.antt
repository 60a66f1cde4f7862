use Rattle.std.proofs.Common.{map, drop}
use Rattle.kms_json.specs.Secret.{secret_data}
use Rattle.kms_json.specs.Tokens.{IsLeft, items_tokens}
use Rattle.kms_json.proofs.rows.put_secrets.Given as goal

abbrev pub invariant-loop-row : goal.invariant-loop-row
invariant-loop-row l = IsLeft l.fn.out l.out (items_tokens (map (secret_data l.endpoint) (drop l.row-index l.rows))) (items_tokens (map (secret_data l.endpoint) l.rows))
