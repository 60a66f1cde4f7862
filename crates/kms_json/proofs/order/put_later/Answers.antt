use Rattle.kms_json.proofs.TokenLaws.{then, then_optional}
use Rattle.kms_json.proofs.order.put_later.Goals as goal

pub returns : goal.returns
returns c = then c.in_ok-put_meta.ensures (then c.in_ok-put_link.ensures (then_optional _ _ _ c.in_ok-put_secret.ensures c.in_ok-put_last.ensures))
