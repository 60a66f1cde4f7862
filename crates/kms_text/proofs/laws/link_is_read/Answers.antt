use Rattle.std.proofs.Common.{arith}
use Rattle.kms_text.proofs.LinkLemmas.{link_of_read}
use Rattle.kms_text.proofs.laws.link_is_read.Goals as goal

pub returns : goal.returns
returns c = link_of_read c.args.endpoint.now c.args.kind c.args.id.now (omega arith)
