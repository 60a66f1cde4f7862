use Rattle.std.proofs.Common.{sym, ap, subst}
use Rattle.std.specs.List.{slice_split}
use Rattle.std.proofs.lemmas.Result.{err_from_is_err_and}
use Rattle.kms_ring.specs.KeyFile.{IsBadLine, is_line_feed}
use Rattle.kms_ring.proofs.KeyFileLaws.{begins, reads_on, reads_all, stops_at}
use Rattle.kms_ring.proofs.ring.Ring.read.Goals as goal

pub loop-behind-init : goal.loop-behind-init
loop-behind-init c = begins c.args.text.now c.unterminated-rest.result.now c.none-keys.result c.none-keys.ensures (ap (slice_split is_line_feed) (sym c.unterminated-rest.ensures))

pub read_line-requires : goal.read_line-requires
read_line-requires c = c.loop-behind.invariant.good

pub returns-in_err-read_line-clause-err : goal.returns-in_err-read_line-clause-err
returns-in_err-read_line-clause-err c =
    let r = err_from_is_err_and c.from_residual.result c.from_residual.ensures.1 in
    rw (r.1) (subst (IsBadLine c.args.text.now) (sym r.2) (stops_at c.args.text.now c.loop-behind.keys c.loop-behind.rest.now c.first_line.result.0.now c.first_line.result.1 c.in_err-read_line.field-0.0 c.loop-behind.invariant c.first_line.ensures.first c.in_err-read_line.ensures.err))

pub loop-behind-smaller : goal.loop-behind-smaller
loop-behind-smaller c = rw c.in-Some.is at c.first_line.ensures.shorter

pub loop-behind-preserved : goal.loop-behind-preserved
loop-behind-preserved c =
    reads_on c.args.text.now c.loop-behind.keys c.read_line.new.self c.loop-behind.rest.now c.first_line.result.0.now c.in-Some.behind c.loop-behind.invariant (rw c.in-Some.is at c.first_line.ensures.first) c.in_ok-read_line.ensures.ok

pub returns-in-None-clause-ok : goal.returns-in-None-clause-ok
returns-in-None-clause-ok c =
    reads_all c.args.text.now c.loop-behind.keys c.read_line.new.self c.loop-behind.rest.now c.first_line.result.0.now c.loop-behind.invariant (rw c.in-None.is at c.first_line.ensures.first) c.in_ok-read_line.ensures.ok
