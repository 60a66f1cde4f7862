use Rattle.kms_http.proofs.MessageStreamLaws.{served_at-more}
use Rattle.kms_http.proofs.message_laws.what_is_served_stays.Goals as goal

pub returns : goal.returns
returns c = λ most n what e. served_at-more most n c.args.bytes.now c.args.more.now what e
