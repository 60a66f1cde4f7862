use Rattle.std.proofs.lemmas.Result.{err_from_is_err_and}
use Rattle.kms_record.specs.GrammarReading.{change_at}
use Rattle.kms_record.specs.Reading.{many}
use Rattle.kms_record.proofs.ManyLaws.{goes_on, ends, is_done}
use Rattle.kms_record.proofs.decode.read_all_changes.Goals as goal

pub returns-in_err-read_change : goal.returns-in_err-read_change
returns-in_err-read_change c =
    let p = err_from_is_err_and c.from_residual.result c.from_residual.ensures.1 in
    rw (p.1, p.2) (ends change_at c.in_err-read_change.field-0.0 c.loop.changes c.args.count c.loop.counter c.loop.cursor (many change_at c.args.count c.args.cursor.now) c.loop-test.true c.in_err-read_change.ensures c.loop.invariant)

pub loop-preserved : goal.loop-preserved
loop-preserved c =
    rw c.in_ok-push.ensures.ok (goes_on change_at c.loop.changes c.args.count c.loop.counter c.loop.cursor c.in_ok-read_change.field-0 c.read_change.new.cursor (many change_at c.args.count c.args.cursor.now) c.loop-test.true c.in_ok-read_change.ensures c.loop.invariant)

pub returns : goal.returns
returns c = is_done change_at c.loop.changes c.args.count c.loop.counter c.loop.cursor (many change_at c.args.count c.args.cursor.now) c.loop-test.false c.loop.invariant
