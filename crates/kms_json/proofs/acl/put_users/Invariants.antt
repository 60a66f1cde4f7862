use Rattle.std.proofs.Common.{map, drop}
use Rattle.serde_json.specs.Data.{string}
use Rattle.kms_json.specs.Tokens.{IsLeft, items_tokens}
use Rattle.kms_json.proofs.acl.put_users.Given as goal

abbrev pub invariant-loop-user : goal.invariant-loop-user
invariant-loop-user l = IsLeft l.fn.out l.out (items_tokens (map string (drop l.user-index l.users))) (items_tokens (map string l.users))
