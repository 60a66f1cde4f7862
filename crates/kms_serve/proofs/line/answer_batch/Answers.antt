use Rattle.std.proofs.Common.{refl, ◌+◌}
use Rattle.kms_serve.specs.declared.serving.Serving.{Serving}
use Rattle.kms_serve.proofs.SinceLaws.{since_answered}
use Rattle.kms_serve.proofs.line.answer_batch.Goals as goal

pub returns-clause-owing : goal.returns-clause-owing
returns-clause-owing g c = λ key_file store start before stand taken last good.
    let after : Serving = record { engine = c.answer_one-owed.new.engine; reader = c.args.s.now.reader; routes = c.args.s.now.routes; count = c.args.s.now.count + 1 } in
    since_answered c.args.endpoint.now key_file store before c.args.s.now after c.args.served.now stand _ taken refl refl good (c.answer_one-owed.ensures.answers store key_file c.args.s.now.count last)
