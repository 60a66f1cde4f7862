use Rattle.std.proofs.lemmas.Result.{err_from_is_err_and}
use Rattle.kms_record.specs.GrammarReading.{step_at}
use Rattle.kms_record.specs.Reading.{many}
use Rattle.kms_record.proofs.ManyLaws.{goes_on, ends, is_done}
use Rattle.kms_record.proofs.decode.read_steps.Goals as goal

pub returns-in_err-read_step : goal.returns-in_err-read_step
returns-in_err-read_step c =
    let p = err_from_is_err_and c.from_residual.result c.from_residual.ensures.1 in
    rw (p.1, p.2) (ends step_at c.in_err-read_step.field-0.0 c.loop.steps c.args.count c.loop.counter c.loop.cursor (many step_at c.args.count c.args.cursor.now) c.loop-test.true c.in_err-read_step.ensures c.loop.invariant)

pub loop-preserved : goal.loop-preserved
loop-preserved c =
    rw c.in_ok-push.ensures.ok (goes_on step_at c.loop.steps c.args.count c.loop.counter c.loop.cursor c.in_ok-read_step.field-0 c.read_step.new.cursor (many step_at c.args.count c.args.cursor.now) c.loop-test.true c.in_ok-read_step.ensures c.loop.invariant)

pub returns : goal.returns
returns c = is_done step_at c.loop.steps c.args.count c.loop.counter c.loop.cursor (many step_at c.args.count c.args.cursor.now) c.loop-test.false c.loop.invariant
