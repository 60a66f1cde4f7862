use Rattle.std.proofs.Common.{map, drop}
use Rattle.kms_json.specs.Container.{member_data}
use Rattle.kms_json.specs.Tokens.{IsLeft, items_tokens}
use Rattle.kms_json.proofs.container.put_members.Given as goal

abbrev pub invariant-loop-member : goal.invariant-loop-member
invariant-loop-member l = IsLeft l.fn.out l.out (items_tokens (map (member_data l.endpoint) (drop l.member-index l.members))) (items_tokens (map (member_data l.endpoint) l.members))
