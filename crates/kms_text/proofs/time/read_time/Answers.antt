use Rattle.std.proofs.Common.{sym}
use Rattle.kms_text.proofs.MomentLemmas.{short_none}
use Rattle.kms_text.proofs.time.read_time.Goals as goal

pub returns-then-text-lt19-clause-value : goal.returns-then-text-lt19-clause-value
returns-then-text-lt19-clause-value c = sym (short_none c.args.text.now c.if-text-lt19.true)
