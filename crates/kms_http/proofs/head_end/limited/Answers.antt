use Rattle.std.proofs.Common.{sym, arith}
use Rattle.std.proofs.lemmas.List.{take_all}
use Rattle.kms_http.specs.HeadEnd.{head_limit}
use Rattle.kms_http.proofs.head_end.limited.Goals as goal

pub returns-then-bytes-lt-HEAD_LIMIT : goal.returns-then-bytes-lt-HEAD_LIMIT
returns-then-bytes-lt-HEAD_LIMIT c = sym (take_all head_limit c.args.bytes.now (omega arith))
