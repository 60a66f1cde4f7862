use Rattle.std.proofs.lemmas.Result.{err_from_is_err_and}
use Rattle.kms_record.specs.ContainerReading.{member_at}
use Rattle.kms_record.specs.Reading.{many}
use Rattle.kms_record.proofs.ManyLaws.{goes_on, ends, is_done}
use Rattle.kms_record.proofs.container.read_each_member.Goals as goal

pub returns-in_err-read_member : goal.returns-in_err-read_member
returns-in_err-read_member c =
    let p = err_from_is_err_and c.from_residual.result c.from_residual.ensures.1 in
    rw (p.1, p.2) (ends member_at c.in_err-read_member.field-0.0 c.loop.members c.args.count c.loop.counter c.loop.cursor (many member_at c.args.count c.args.cursor.now) c.loop-test.true c.in_err-read_member.ensures c.loop.invariant)

pub loop-preserved : goal.loop-preserved
loop-preserved c =
    rw c.in_ok-push.ensures.ok (goes_on member_at c.loop.members c.args.count c.loop.counter c.loop.cursor c.in_ok-read_member.field-0 c.read_member.new.cursor (many member_at c.args.count c.args.cursor.now) c.loop-test.true c.in_ok-read_member.ensures c.loop.invariant)

pub returns : goal.returns
returns c = is_done member_at c.loop.members c.args.count c.loop.counter c.loop.cursor (many member_at c.args.count c.args.cursor.now) c.loop-test.false c.loop.invariant
