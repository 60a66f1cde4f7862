use Rattle.std.proofs.Common.{sym, subst}
use Rattle.kms_ring.specs.Ring.{IsUnwrapped}
use Rattle.kms_sealing.proofs.OpeningLaws.{unknown_here, one_more}
use Rattle.kms_sealing.proofs.opening.unwrapped.Goals as goal

pub returns-in-None-clause-err : goal.returns-in-None-clause-err
returns-in-None-clause-err c = unknown_here c.args.ring.now c.args.rows.now c.loop-row.keys.items c.row-item.result c.loop-row.row-index c.loop-row-test.true c.row-item.is c.loop-row.invariant c.in-None.ensures.key

pub loop-row-preserved : goal.loop-row-preserved
loop-row-preserved c =
    rw c.in_ok-push-in-Some.ensures.items
    (one_more c.args.ring.now c.args.rows.now c.loop-row.keys.items c.row-item.result c.of.result c.loop-row.row-index c.loop-row-test.true c.row-item.is c.loop-row.invariant
    (subst (IsUnwrapped c.args.ring.now c.row-item.result.wrapped) (sym c.of.ensures) c.in-Some.ensures.key))
