use Rattle.kms_http.proofs.WholeHeadLaws.{head-is-read, read-is-head}
use Rattle.kms_http.proofs.message_laws.whole_head_is_the_grammar.Goals as goal

pub returns : goal.returns
returns c = (head-is-read, read-is-head)
