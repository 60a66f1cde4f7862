use Rattle.std.proofs.Common.{sym}
use Rattle.kms_text.proofs.MomentLemmas.{before_epoch, from_epoch, past_end}
use Rattle.kms_text.proofs.time.moment_since_epoch.Goals as goal

pub returns-then-utc-lt-EPOCH_SECONDS-clause-value : goal.returns-then-utc-lt-EPOCH_SECONDS-clause-value
returns-then-utc-lt-EPOCH_SECONDS-clause-value c = sym (before_epoch c.args.utc c.if-utc-lt-EPOCH_SECONDS.true)

pub returns-then-moment-lt-END-clause-value : goal.returns-then-moment-lt-END-clause-value
returns-then-moment-lt-END-clause-value c = sym (from_epoch c.args.utc c.if-utc-lt-EPOCH_SECONDS.false c.if-moment-lt-END.true)

pub returns-else-moment-lt-END-clause-value : goal.returns-else-moment-lt-END-clause-value
returns-else-moment-lt-END-clause-value c = sym (past_end c.args.utc c.if-moment-lt-END.false)
