use Rattle.std.proofs.Common.{ap, ◌∙◌}
use Rattle.kms_http.specs.Reading.{Reading}
use Rattle.kms_serve.proofs.SinceLaws.{taken_out, after_last, after_more_come}
use Rattle.kms_serve.proofs.line.serve_request.Goals as goal

pub returns-in-Ended-clause-good : goal.returns-in-Ended-clause-good
returns-in-Ended-clause-good g c key_file store start before taken good =
    c.in-Ended.ensures.given c.args.endpoint.now key_file store start _
    (c.answer_batch-owed.ensures.owing key_file store start before _ (taken_out before c.args.s.now c.args.message c.ends_line-last.result c.ends_line-last.ensures taken) c.ends_line-last.ensures good)

pub returns-then-last-clause-good : goal.returns-then-last-clause-good
returns-then-last-clause-good g c key_file store start before taken good =
    after_last c.args.endpoint.now key_file store _ c.ends_line-last.result _ c.if-last.true
    (c.in-Went.ensures.given c.args.endpoint.now key_file store start _
    (c.answer_batch-owed.ensures.owing key_file store start before _ (taken_out before c.args.s.now c.args.message c.ends_line-last.result c.ends_line-last.ensures taken) c.ends_line-last.ensures good))
    c.shut.ensures.told

pub returns-clause-good : goal.returns-clause-good
returns-clause-good g c key_file store start before taken good =
    after_more_come c.args.endpoint.now key_file store _ c.ends_line-last.result c.args.s.now.reader.held c.if-last.false
    (ap (λ (r : Reading). r.held) (c.settle_and_give.ensures.reader ∙ c.answer_batch-owed.ensures.reader))
    (c.in-Went.ensures.given c.args.endpoint.now key_file store start _
    (c.answer_batch-owed.ensures.owing key_file store start before _ (taken_out before c.args.s.now c.args.message c.ends_line-last.result c.ends_line-last.ensures taken) c.ends_line-last.ensures good))
