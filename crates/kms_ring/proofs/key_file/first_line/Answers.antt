use Rattle.std.proofs.Common.{arith}
use Rattle.kms_ring.proofs.KeyFileLaws.{line_here, line_last}
use Rattle.kms_ring.proofs.key_file.first_line.Goals as goal

pub returns-then-end-rest-clause-first : goal.returns-then-end-rest-clause-first
returns-then-end-rest-clause-first c = line_here c.args.rest.now c.line_feed-end.result c.line_feed-end.ensures.place c.if-end-rest.true

pub returns-else-end-rest-clause-first : goal.returns-else-end-rest-clause-first
returns-else-end-rest-clause-first c = line_last c.args.rest.now c.line_feed-end.result c.line_feed-end.ensures.place (omega (arith, c.if-end-rest.false))
