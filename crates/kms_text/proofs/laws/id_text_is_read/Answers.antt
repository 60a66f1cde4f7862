use Rattle.std.proofs.Common.{arith}
use Rattle.kms_text.proofs.RoundLemmas.{id_read}
use Rattle.kms_text.proofs.laws.id_text_is_read.Goals as goal

pub returns : goal.returns
returns c = id_read c.args.id.now (omega arith)
