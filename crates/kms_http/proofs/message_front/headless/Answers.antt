use Rattle.std.proofs.Common.{sym, ap, ◌∙◌, arith}
use Rattle.std.proofs.lemmas.List.{take_all}
use Rattle.kms_http.specs.HeadEnd.{head_len}
use Rattle.kms_http.specs.HeadEnd.{head_limit}
use Rattle.kms_http.proofs.MessageFrontLaws.{front-without, front-over}
use Rattle.kms_http.proofs.message_front.headless.Goals as goal

pub returns-then-bytes-lt-HEAD_LIMIT : goal.returns-then-bytes-lt-HEAD_LIMIT
returns-then-bytes-lt-HEAD_LIMIT c = (
  front-without c.args.bytes.now (sym c.requires) c.if-bytes-lt-HEAD_LIMIT.true,
  c.if-bytes-lt-HEAD_LIMIT.true,
  ap head_len (sym (take_all head_limit c.args.bytes.now (omega arith))) ∙ sym c.requires,
)

pub returns-else-bytes-lt-HEAD_LIMIT : goal.returns-else-bytes-lt-HEAD_LIMIT
returns-else-bytes-lt-HEAD_LIMIT c = front-over c.args.bytes.now (sym c.requires) c.if-bytes-lt-HEAD_LIMIT.false
